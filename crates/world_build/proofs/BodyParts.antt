-- The bodies of a world have no more nodes, arguments and locals than the items of its text count.
use Rattle.std.specs.Prelude.{◌≡◌, ℕ, zero, suc, ◌+◌, ◌-◌, ◌≤◌, Bool, true, false, not, ◌&&◌, Option, None, Some, Result, Ok, Err, List, [], ◌∷◌, ◌++◌, length, slice_get, slice_set, refl}
use Rattle.std.proofs.Common.{ap, arith, inl, inr, length-append}
use Rattle.std.proofs.lemmas.Bool.{cases_Bool}
use Rattle.self_terms.specs.declared.nodes.Node.{Node}
use Rattle.self_terms.specs.declared.nodes.Place.{Place}
use Rattle.self_terms.specs.declared.values.Datum.{Datum as Value}
use Rattle.self_terms.specs.declared.bodies.Body.{Body}
use Rattle.self_terms.specs.declared.bodies.Local.{Local}
use Rattle.self_terms.specs.Bodies.{change_body, add_node, add_argument, add_local, with_name}
use Rattle.self_grammar.specs.declared.signs.Spot.{Spot}
use Rattle.self_grammar.specs.declared.pieces.Made.{Made}
use Rattle.self_grammar.specs.declared.pieces.TextNode.{TextNode}
use Rattle.self_grammar.specs.declared.pieces.TextNode.TheVariants as text
use Rattle.self_grammar.specs.declared.pieces.SlotForm.{SlotForm}
use Rattle.self_grammar.specs.declared.pieces.SlotForm.TheVariants as form
use Rattle.self_grammar.specs.declared.pieces.Words.{Words}
use Rattle.self_grammar.specs.declared.pieces.Item.{Item}
use Rattle.self_grammar.specs.declared.pieces.Item.TheVariants as items
use Rattle.world_build.specs.declared.values.Open.{Open}
use Rattle.world_build.specs.declared.values.Open.TheVariants.{InObject as in_object, InBody as in_body}
use Rattle.world_build.specs.declared.values.Held.{Held}
use Rattle.world_build.specs.declared.values.Held.TheVariants.{Nothing as nothing, Data as value, Code as body}
use Rattle.world_build.specs.declared.slots.ToldSlot.{ToldSlot}
use Rattle.world_build.specs.declared.refusals.BuildRefusal.{BuildRefusal}
use Rattle.world_build.specs.declared.loading.Loading.{Loading}
use Rattle.world_build.specs.Names.{with_words, word_number}
use Rattle.world_build.specs.Loading.{begun, place, root, further, followed, is_object, innermost, body_in, opened, at_object, add_slots, slots_for, local_for, placed_in, name_body, with_slot, slot_ended, is_parent, may_be_parent, argument_in}
use Rattle.world_build.specs.Nodes.{beside, at_innermost, node_of, with_node, take_item}
use Rattle.world_build.specs.Nodes
use Rattle.world_build.specs.Worlds.{World, built}
use Rattle.world_build.proofs.Weights.{ok_bound, ok_same}
use Rattle.world_build.proofs.Ordered.{made_of}

-- Each node, argument and slot counts one.
abbrev pub count : Item → ℕ
count (items.Node m) = 1
count (items.Argument n) = 1
count (items.Named n) = 1
count (items.Slot w f p) = 1
count _ = 0

abbrev pub counts : List Item → ℕ
counts [] = 0
counts (i ∷ is) = count i + counts is

-- the nodes, arguments and locals of a body
abbrev pub parts : Body → ℕ
parts x = length x.nodes + (length x.arguments + length x.locals)

abbrev pub all_parts : List Body → ℕ
all_parts [] = 0
all_parts (x ∷ xs) = parts x + all_parts xs

-- those of what was loaded, with the arguments that wait for their body
abbrev loaded_parts : Loading → ℕ
loaded_parts s = all_parts s.bodies + length s.waiting

-- Lists of bodies.

parts_append : (xs ys : List Body) → all_parts (xs ++ ys) ≡ all_parts xs + all_parts ys
parts_append [] ys = omega arith
parts_append (x ∷ xs) ys = omega (arith, parts_append xs ys)

parts_set : (xs : List Body) (j : ℕ) (x y : Body) → slice_get xs j ≡ Some x → all_parts (slice_set xs j y) + parts x ≡ all_parts xs + parts y
parts_set [] j x y e = cc
parts_set (z ∷ xs) zero x y e = let same : z ≡ x = cc in omega (arith, ap parts same)
parts_set (z ∷ xs) (suc j) x y e = omega (arith, parts_set xs j x y e)

-- a body gets so many more
parts_changed : (f : Body → Body) (n : ℕ) → ((x : Body) → parts (f x) ≤ parts x + n) → (o : Option Body) (xs : List Body) (j : ℕ) → slice_get xs j ≡ o → all_parts (change_body f o xs j) ≤ all_parts xs + n
parts_changed f n h None xs j e = omega arith
parts_changed f n h (Some x) xs j e = omega (arith, parts_set xs j x (f x) e, h x)

node_more : (n : Node) (p : Place) (x : Body) → parts (add_node n p x) ≤ parts x + 1
node_more n p x = omega (arith, length-append x.nodes (n ∷ []))

argument_more : (n : ℕ) (x : Body) → parts (add_argument n x) ≤ parts x + 1
argument_more n x = omega (arith, length-append x.arguments (n ∷ []))

local_more : (v : Local) (x : Body) → parts (add_local v x) ≤ parts x + 1
local_more v x = omega (arith, length-append x.locals (v ∷ []))

-- Slots.

slots_parts : (o : ℕ) (xs : List ToldSlot) (s : Loading) → loaded_parts (add_slots o xs s) ≡ loaded_parts s
slots_parts o [] s = refl
slots_parts o (x ∷ xs) s = slots_parts o xs (at_object o x s)

named_parts : (h : Held) (n : ℕ) (f : SlotForm) (s : Loading) → loaded_parts (name_body h n f s) ≤ loaded_parts s
named_parts nothing n f s = omega arith
named_parts (value v) n f s = omega arith
named_parts (body b) n form.Method s = omega (arith, parts_changed (with_name n) 0 (λ x. omega arith) (slice_get s.bodies (b - 1)) s.bodies (b - 1) refl)
named_parts (body b) n form.Constant s = omega arith
named_parts (body b) n (form.Assignable setter) s = omega arith
named_parts (body b) n (form.Bare setter) s = omega arith
named_parts (body b) n form.Parent s = omega arith

placed_parts : (o : Option Open) (n : ℕ) (f : SlotForm) (s : Loading) → loaded_parts (placed_in o n f s) ≤ loaded_parts s + 1
placed_parts None n f s = omega arith
placed_parts (Some (in_object o)) n f s = omega (arith, slots_parts o (slots_for n f s.held) s)
placed_parts (Some (in_body b)) n f s = omega (arith, parts_changed (add_local (local_for n f s.held)) 1 (local_more (local_for n f s.held)) (slice_get s.bodies (b - 1)) s.bodies (b - 1) refl)

slot_parts : (n : ℕ) (f : SlotForm) (s : Loading) → loaded_parts (with_slot n f s) ≤ loaded_parts s + 1
slot_parts n f s = omega (arith, placed_parts (innermost s.around) n f (name_body s.held n f s), named_parts s.held n f s)

-- Nodes and arguments.

beside_parts : (bytes : List ℕ) (n : TextNode) (s : Loading) → loaded_parts (beside bytes n s) ≡ loaded_parts s
beside_parts bytes (text.Integer z) s = refl
beside_parts bytes (text.Text i j) s = refl
beside_parts bytes text.Block s = refl
beside_parts bytes text.Itself s = refl
beside_parts bytes text.Nil s = refl
beside_parts bytes (text.Message to w args) s = refl
beside_parts bytes (text.Primitive w args receiver handler) s = refl
beside_parts bytes text.Drop s = refl
beside_parts bytes text.Restart s = refl
beside_parts bytes text.Return s = refl
beside_parts bytes text.End s = refl

innermost_parts : (o : Option Open) (n : Node) (p : Place) (s : Loading) → loaded_parts (at_innermost o n p s) ≤ loaded_parts s + 1
innermost_parts None n p s = omega arith
innermost_parts (Some (in_object o)) n p s = omega arith
innermost_parts (Some (in_body b)) n p s = omega (arith, parts_changed (add_node n p) 1 (node_more n p) (slice_get s.bodies (b - 1)) s.bodies (b - 1) refl)

node_parts : (bytes : List ℕ) (n : Made) (s : Loading) → loaded_parts (with_node bytes n s) ≤ loaded_parts s + 1
node_parts bytes n s = omega (arith, beside_parts bytes n.node s, innermost_parts (innermost s.around) (node_of s n.node) (place n.spot) (beside bytes n.node s))

argument_parts : (o : Option Open) (n : ℕ) (s : Loading) → loaded_parts (argument_in o n s) ≤ loaded_parts s + 1
argument_parts None n s = omega arith
argument_parts (Some (in_object o)) n s = omega arith
argument_parts (Some (in_body b)) n s = omega (arith, parts_changed (add_argument n) 1 (argument_more n) (slice_get s.bodies (b - 1)) s.bodies (b - 1) refl)

-- Items.

-- What was loaded has at most so many, where nothing is refused.
Holds : ℕ → Result Loading BuildRefusal → Type 0
Holds n (Ok t) = loaded_parts t ≤ n
Holds n (Err e) = Unit {0}

followed_parts : (n : ℕ) (p : Spot) (v : Option Value) (s : Loading) → loaded_parts s ≤ n → Holds n (followed s p v)
unfolding Holds
followed_parts n p None s h = tt
followed_parts n p (Some v) s h = h

ended_parts : (n : ℕ) (w : Words) (f : SlotForm) (p : Spot) (s : Loading) → loaded_parts s + 1 ≤ n → Holds n (slot_ended w f p s)
unfolding Holds
ended_parts n w f p s h = elim (cases_Bool (is_parent f && not (may_be_parent s s.held))) [
  | inl e ↦ rw e tt
  | inr e ↦ rw e (omega (arith, h, slot_parts (word_number s.names w) f (record s { names = with_words s.names w })))
]

-- A body begins with the arguments that waited.
opened_parts : (b : Bool) (s : Loading) → loaded_parts (opened b s) ≤ loaded_parts s
opened_parts true s = omega arith
opened_parts false s = omega (arith, parts_append s.bodies (record { name = None; outer = body_in (innermost s.around); arguments = s.waiting; locals = []; nodes = []; places = [] } ∷ []))

item_parts : (bytes : List ℕ) (i : Item) (rest : List Item) (s : Loading) → Holds (loaded_parts s + count i) (take_item bytes i rest s)
unfolding Holds
item_parts bytes (items.Node n) rest s = node_parts bytes n s
item_parts bytes (items.Opened p) rest s = omega (arith, opened_parts (is_object 0 rest) s)
item_parts bytes items.ClosedObject rest s = omega arith
item_parts bytes items.ClosedBody rest s = omega arith
item_parts bytes (items.Integer z) rest s = omega arith
item_parts bytes (items.Text i j) rest s = omega arith
item_parts bytes (items.Root n p) rest s = followed_parts (loaded_parts s + 0) p (root s n) s (omega arith)
item_parts bytes (items.Further n p) rest s = followed_parts (loaded_parts s + 0) p (further s s.held n) s (omega arith)
item_parts bytes (items.Argument n) rest s = argument_parts (innermost s.around) n s
item_parts bytes (items.Named n) rest s = omega (arith, length-append s.waiting (n ∷ []))
item_parts bytes (items.Slot w f p) rest s = ended_parts (loaded_parts s + 1) w f p s (omega arith)

taken_parts : (bytes : List ℕ) (i : Item) (rest : List Item) (s t : Loading) → take_item bytes i rest s ≡ Ok t → loaded_parts t ≤ loaded_parts s + count i
unfolding Holds
taken_parts bytes i rest s t e = rw e at (item_parts bytes i rest s)

all_loaded : (bytes : List ℕ) (is : List Item) (s t : Loading) → Nodes.loaded bytes is s ≡ Ok t → loaded_parts t ≤ loaded_parts s + counts is
unfolding Nodes.loaded
all_loaded bytes [] s t e = let same : s ≡ t = ok_same s t e in omega (arith, ap loaded_parts same)
all_loaded bytes (i ∷ is) s t e =
    let a = ok_bound (take_item bytes i is s) (λ u. Nodes.loaded bytes is u) t e in
    omega (arith, all_loaded bytes is a.0 t a.2, taken_parts bytes i is s a.0 a.1)

-- the bodies of a world
pub built_parts : (names : List (List ℕ)) (bytes : List ℕ) (is : List Item) (w : World) → built names bytes is ≡ Ok w → all_parts w.bodies ≤ counts is
built_parts names bytes is w e =
    let m = made_of (Nodes.loaded bytes is (begun names)) w e in
    omega (arith, all_loaded bytes is (begun names) m.loading m.was, ap (λ (x : World). all_parts x.bodies) m.is)
