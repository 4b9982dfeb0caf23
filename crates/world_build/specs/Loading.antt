-- What the items of a text build, one after the other: objects, each with a list of slots of its own, and bodies.
-- After the Self Handbook, "Objects and slots"; that names are followed from the lobby, what numbers objects and bodies
-- have, and what is refused are this project's own rules.
use Rattle.std.specs.Prelude.{ℕ, zero, suc, ◌+◌, Bool, true, false, ◌&&◌, not, nat_eq, nat_le, if◌then◌else◌, Option, None, Some, Result, Ok, Err, List, [], ◌∷◌, ◌++◌, length, slice_get, slice_range}
use Rattle.self_terms.specs.declared.nodes.Place.{Place}
use Rattle.self_terms.specs.declared.values.Datum.{Datum as Value}
use Rattle.self_terms.specs.declared.values.Datum.TheVariants.{Integer as integer, Object as object, Nil as nil}
use Rattle.self_terms.specs.declared.bodies.Local.{Local}
use Rattle.self_terms.specs.Bodies.{changed, add_argument, add_local, with_name}
use Rattle.self_tokens.specs.Texts.{unescaped}
use Rattle.self_grammar.specs.declared.signs.Spot.{Spot}
use Rattle.self_grammar.specs.declared.pieces.Words.{Words}
use Rattle.self_grammar.specs.declared.pieces.SlotForm.{SlotForm}
use Rattle.self_grammar.specs.declared.pieces.SlotForm.TheVariants as form
use Rattle.self_grammar.specs.declared.pieces.Item.{Item}
use Rattle.self_grammar.specs.declared.pieces.Item.TheVariants as items
use Rattle.world_build.specs.declared.cores.CoreName.TheVariants.{Nil as nil_name}
use Rattle.world_build.specs.declared.values.Open.{Open}
use Rattle.world_build.specs.declared.values.Open.TheVariants.{InObject as in_object, InBody as in_body}
use Rattle.world_build.specs.declared.values.Held.{Held}
use Rattle.world_build.specs.declared.values.Held.TheVariants.{Nothing as nothing, Data as value, Code as body}
use Rattle.world_build.specs.declared.slots.ToldContent.TheVariants.{Constant as constant, Assignable as assignable, Assignment as assignment, Parent as parent, Method as method}
use Rattle.world_build.specs.declared.slots.ToldSlot.{ToldSlot}
use Rattle.world_build.specs.declared.things.ToldThing.TheVariants.{Plain as plain, Text as string}
use Rattle.world_build.specs.declared.refusals.BuildRefusal.{BuildRefusal}
use Rattle.world_build.specs.declared.refusals.BuildRefusal.TheVariants.{NoSuchPath, ParentNotObject}
use Rattle.world_build.specs.declared.loading.Loading.{Loading}
use Rattle.source_model.specs.Names.{number_of}
use Rattle.world_build.specs.Names.{with_world_texts, lobby_text, core_text, with_words, word_number}
use Rattle.world_build.specs.Things.{own_data, change_thing, is_string}

-- before the first item: the lobby is open, and counts as an object
abbrev pub begun : List (List ℕ) → Loading
begun names = record { names = with_world_texts names; things = plain [] ∷ []; bodies = []; around = in_object 0 ∷ []; held = nothing; waiting = []; size = 1 }

-- a place of the world's text
abbrev pub place : Spot → Place
place p = record { edit = 0; line = p.line; column = p.column }

-- Paths.

abbrev pub data_of : Loading → ℕ → ℕ → Option Value
data_of s o n = own_data (slice_get s.things o) n

-- The first name of a path is `lobby`, or names data of the lobby.
abbrev pub root : Loading → ℕ → Option Value
root s n = if nat_eq n (number_of s.names lobby_text) then Some (object 0) else data_of s 0 n

-- what a value is, where it is an object; nil is the lobby's `nil`, where that is there and isn't told by itself
abbrev pub plain_object : Option Value → Option ℕ
plain_object None = None
plain_object (Some (integer z)) = None
plain_object (Some (object o)) = Some o
plain_object (Some nil) = None

abbrev pub object_in : Loading → Value → Option ℕ
object_in s (integer z) = None
object_in s (object o) = Some o
object_in s nil = plain_object (data_of s 0 (number_of s.names (core_text nil_name)))

abbrev pub data_at : Loading → Option ℕ → ℕ → Option Value
data_at s None n = None
data_at s (Some o) n = data_of s o n

-- A further name names data of what was reached.
abbrev pub further : Loading → Held → ℕ → Option Value
further s nothing n = None
further s (value v) n = data_at s (object_in s v) n
further s (body b) n = None

abbrev pub holding : Loading → Value → Loading
holding s v = record s { held = value v }

abbrev pub followed : Loading → Spot → Option Value → Result Loading BuildRefusal
followed s p None = Err (NoSuchPath (place p))
followed s p (Some v) = Ok (holding s v)

-- Objects and bodies.

-- Whether what opened before these items is an object: how the first item that closes it is called.
abbrev pub is_object : ℕ → List Item → Bool
is_object depth [] = false
is_object depth (items.Opened p ∷ rest) = is_object (depth + 1) rest
is_object zero (items.ClosedObject ∷ rest) = true
is_object (suc depth) (items.ClosedObject ∷ rest) = is_object depth rest
is_object zero (items.ClosedBody ∷ rest) = false
is_object (suc depth) (items.ClosedBody ∷ rest) = is_object depth rest
is_object depth (_ ∷ rest) = is_object depth rest

-- what is open innermost
abbrev pub innermost : List Open → Option Open
innermost around = slice_get around 0

-- the body that is open innermost, where a body is
abbrev pub body_in : Option Open → Option ℕ
body_in None = None
body_in (Some (in_object o)) = None
body_in (Some (in_body b)) = Some b

abbrev pub with_object : Loading → Loading
with_object s = record s { things = s.things ++ plain [] ∷ []; around = in_object (length s.things) ∷ s.around; size = s.size + 1 }

abbrev pub with_body : Loading → Loading
with_body s = record s {
  bodies = s.bodies ++ record { name = None; outer = body_in (innermost s.around); arguments = s.waiting; locals = []; nodes = []; places = [] } ∷ [];
  around = in_body (length s.bodies + 1) ∷ s.around;
  waiting = [];
}

-- an object opens, or a body
abbrev pub opened : Bool → Loading → Loading
opened true s = with_object s
opened false s = with_body s

abbrev pub closed : List Open → Held → List Open × Held
closed [] h = ([], h)
closed (in_object o ∷ outer) h = (outer, value (object o))
closed (in_body b ∷ outer) h = (outer, body b)

abbrev pub with_closed : Loading → Loading
with_closed s = record s { around = (closed s.around s.held).0; held = (closed s.around s.held).1 }

-- the bytes of a text from one place up to another; a text that was read has them
abbrev pub between : List ℕ → ℕ → ℕ → List ℕ
between bytes start end = if nat_le start end && nat_le end (length bytes) then slice_range bytes start end else []

-- a string gets the next object's number
abbrev pub with_string : List ℕ → ℕ → ℕ → Loading → Loading
with_string bytes start end s = record s { things = s.things ++ string (unescaped (between bytes start end)) ∷ [] }

-- Slots.

-- the loading with one slot more in an object
abbrev pub at_object : ℕ → ToldSlot → Loading → Loading
at_object o x s = record s { things = change_thing x (slice_get s.things o) s.things o }

-- what a slot holds that ends here
abbrev pub value_in : Held → Value
value_in nothing = nil
value_in (value v) = v
value_in (body b) = nil

abbrev pub body_number : Held → ℕ
body_number nothing = 0
body_number (value v) = 0
body_number (body b) = b

-- an assignable slot makes its assignment slot too
abbrev pub slots_for : ℕ → SlotForm → Held → List ToldSlot
slots_for n form.Constant h = record { name = n; content = constant (value_in h) } ∷ []
slots_for n (form.Assignable setter) h = record { name = n; content = assignable (value_in h) } ∷ record { name = setter; content = assignment } ∷ []
slots_for n (form.Bare setter) h = record { name = n; content = assignable nil } ∷ record { name = setter; content = assignment } ∷ []
slots_for n form.Parent h = record { name = n; content = parent (value_in h) } ∷ []
slots_for n form.Method h = record { name = n; content = method (body_number h) } ∷ []

abbrev pub add_slots : ℕ → List ToldSlot → Loading → Loading
add_slots o [] s = s
add_slots o (x ∷ xs) s = add_slots o xs (at_object o x s)

abbrev pub local_for : ℕ → SlotForm → Held → Local
local_for n form.Constant h = record { name = n; setter = None; initial = value_in h }
local_for n (form.Assignable setter) h = record { name = n; setter = Some setter; initial = value_in h }
local_for n (form.Bare setter) h = record { name = n; setter = Some setter; initial = nil }
local_for n form.Parent h = record { name = n; setter = None; initial = value_in h }
local_for n form.Method h = record { name = n; setter = None; initial = nil }

-- a slot of what is open innermost
abbrev pub placed_in : Option Open → ℕ → SlotForm → Loading → Loading
placed_in None n f s = s
placed_in (Some (in_object o)) n f s = add_slots o (slots_for n f s.held) s
placed_in (Some (in_body b)) n f s = record s { bodies = changed (add_local (local_for n f s.held)) s.bodies b }

-- a method's body has the name of its slot
abbrev pub name_body : Held → ℕ → SlotForm → Loading → Loading
name_body (body b) n form.Method s = record s { bodies = changed (with_name n) s.bodies b }
name_body h n f s = s

abbrev pub with_slot : ℕ → SlotForm → Loading → Loading
with_slot n f s = record (placed_in (innermost s.around) n f (name_body s.held n f s)) { held = nothing; size = s.size + 1 }

-- An integer or a string is no parent.
abbrev pub may_be_parent : Loading → Held → Bool
may_be_parent s nothing = true
may_be_parent s (value (integer z)) = false
may_be_parent s (value (object o)) = not (is_string (slice_get s.things o))
may_be_parent s (value nil) = true
may_be_parent s (body b) = true

abbrev pub is_parent : SlotForm → Bool
is_parent form.Parent = true
is_parent _ = false

abbrev pub slot_ended : Words → SlotForm → Spot → Loading → Result Loading BuildRefusal
slot_ended w f p s =
    if is_parent f && not (may_be_parent s s.held) then Err (ParentNotObject (place p))
    else Ok (with_slot (word_number s.names w) f (record s { names = with_words s.names w }))

-- Arguments.

abbrev pub argument_in : Option Open → ℕ → Loading → Loading
argument_in None n s = s
argument_in (Some (in_object o)) n s = s
argument_in (Some (in_body b)) n s = record s { bodies = changed (add_argument n) s.bodies b }

abbrev pub with_argument : ℕ → Loading → Loading
with_argument n s = record (argument_in (innermost s.around) n s) { size = s.size + 1 }

abbrev pub with_waiting : ℕ → Loading → Loading
with_waiting n s = record s { waiting = s.waiting ++ n ∷ []; size = s.size + 1 }
