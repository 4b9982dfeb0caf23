-- The integers that slots of a world hold are 30 bits wide, where those of its data are.
use Rattle.std.specs.Prelude.{◌≡◌, ℕ, zero, suc, ℤ, Bool, true, false, not, ◌&&◌, nat_eq, Option, None, Some, Result, Ok, Err, List, [], ◌∷◌, ◌++◌, map, slice_get, slice_set, refl}
use Rattle.std.specs.List.{list_any}
use Rattle.std.proofs.Common.{ap, sym, subst, ◌∙◌, inl, inr}
use Rattle.std.proofs.lemmas.Bool.{cases_Bool}
use Rattle.self_terms.specs.declared.nodes.Node.{Node}
use Rattle.self_terms.specs.declared.nodes.Place.{Place}
use Rattle.self_terms.specs.declared.values.Datum.{Datum as Value}
use Rattle.self_terms.specs.declared.values.Datum.TheVariants.{Integer as integer, Object as object, Nil as nil}
use Rattle.self_terms.specs.Words.{IsSmall}
use Rattle.self_grammar.specs.declared.signs.Spot.{Spot}
use Rattle.self_grammar.specs.declared.pieces.Made.{Made}
use Rattle.self_grammar.specs.declared.pieces.TextNode.{TextNode}
use Rattle.self_grammar.specs.declared.pieces.TextNode.TheVariants as text
use Rattle.self_grammar.specs.declared.pieces.SlotForm.{SlotForm}
use Rattle.self_grammar.specs.declared.pieces.SlotForm.TheVariants as form
use Rattle.self_grammar.specs.declared.pieces.Words.{Words}
use Rattle.self_grammar.specs.declared.pieces.Item.{Item}
use Rattle.self_grammar.specs.declared.pieces.Item.TheVariants as items
use Rattle.self_terms.specs.declared.values.Value.{Value as SourceValue}
use Rattle.self_terms.specs.declared.values.Value.TheVariants as values
use Rattle.source_model.specs.declared.objects.Slot.{Slot}
use Rattle.source_model.specs.declared.objects.Thing.TheVariants.{Plain, Vector, Text}
use Rattle.source_model.specs.declared.objects.Core.{Core}
use Rattle.source_model.specs.Messages.{value_of}
use Rattle.source_model.specs.Edits.{data_in as told_data}
use Rattle.world_build.specs.declared.slots.ToldContent.{ToldContent}
use Rattle.world_build.specs.declared.slots.ToldContent.TheVariants as told
use Rattle.world_build.specs.Telling.{content_of, slot_from, thing_of}
use Rattle.world_build.specs.declared.values.Open.{Open}
use Rattle.world_build.specs.declared.values.Open.TheVariants.{InObject as in_object, InBody as in_body}
use Rattle.world_build.specs.declared.values.Held.{Held}
use Rattle.world_build.specs.declared.values.Held.TheVariants.{Nothing as nothing, Data as value, Code as body}
use Rattle.world_build.specs.declared.slots.ToldSlot.{ToldSlot}
use Rattle.world_build.specs.declared.things.ToldThing.{ToldThing}
use Rattle.world_build.specs.declared.things.ToldThing.TheVariants.{Plain as plain, Text as string}
use Rattle.world_build.specs.declared.refusals.BuildRefusal.{BuildRefusal}
use Rattle.world_build.specs.declared.loading.Loading.{Loading}
use Rattle.source_model.specs.Names.{number_of}
use Rattle.world_build.specs.Names.{lobby_text, with_words, word_number}
use Rattle.world_build.specs.Slots.{is_named, slot_of, add_slot, data_in}
use Rattle.world_build.specs.Things.{own_data, change_thing}
use Rattle.world_build.specs.Loading.{begun, place, root, object_in, data_of, data_at, further, followed, is_object, innermost, opened, closed, at_object, add_slots, value_in, slots_for, placed_in, name_body, with_slot, slot_ended, is_parent, may_be_parent, argument_in}
use Rattle.world_build.specs.Nodes.{beside, at_innermost, node_of, with_node, take_item}
use Rattle.world_build.specs.Nodes
use Rattle.world_build.specs.Worlds.{World, fixed_strings}
use Rattle.world_build.specs.Worlds
use Rattle.world_build.specs.Wholeness.{IsDatum, AreData}
use Rattle.world_build.proofs.Weights.{finished_things, ok_bound, ok_same}

-- the integer that a value is
abbrev pub SmallValue : Value → Type 0
SmallValue (integer z) = IsSmall z
SmallValue (object o) = Unit {0}
SmallValue nil = Unit {0}

abbrev pub SmallData : Option Value → Type 0
SmallData None = Unit {0}
SmallData (Some v) = SmallValue v

-- those that slots hold
abbrev pub SmallSlots : List ToldSlot → Type 0
SmallSlots [] = Unit {0}
SmallSlots (s ∷ ss) = SmallData (data_in (Some s.content)) × SmallSlots ss

abbrev pub SmallThing : ToldThing → Type 0
SmallThing (plain slots) = SmallSlots slots
SmallThing (string t) = Unit {0}

abbrev pub SmallThings : List ToldThing → Type 0
SmallThings [] = Unit {0}
SmallThings (x ∷ xs) = SmallThing x × SmallThings xs

abbrev pub SmallHeld : Held → Type 0
SmallHeld nothing = Unit {0}
SmallHeld (value v) = SmallValue v
SmallHeld (body b) = Unit {0}

-- all integers of what was loaded, and the one that is held
record Small (s : Loading) : Type 0 where
  things : SmallThings s.things
  held : SmallHeld s.held

-- Slots.

slots_append : (slots : List ToldSlot) (x : ToldSlot) → SmallSlots slots → SmallData (data_in (Some x.content)) → SmallSlots (slots ++ x ∷ [])
slots_append [] x h d = (d, tt)
slots_append (y ∷ slots) x h d = (h.0, slots_append slots x h.1 d)

slots_added : (slots : List ToldSlot) (x : ToldSlot) → SmallSlots slots → SmallData (data_in (Some x.content)) → SmallSlots (add_slot slots x)
slots_added slots x h d = elim (cases_Bool (list_any (is_named x.name) slots)) [
  | inl e ↦ rw e h
  | inr e ↦ rw e (slots_append slots x h d)
]

slot_data : (n : ℕ) (slots : List ToldSlot) → SmallSlots slots → SmallData (data_in (slot_of n slots))
slot_data n [] h = tt
slot_data n (s ∷ slots) h = elim (cases_Bool (is_named n s)) [
  | inl e ↦ rw e h.0
  | inr e ↦ rw e (slot_data n slots h.1)
]

slot_at : (slots : List ToldSlot) (i : ℕ) (s : ToldSlot) → SmallSlots slots → slice_get slots i ≡ Some s → SmallData (data_in (Some s.content))
slot_at [] i s h e = cc
slot_at (x ∷ slots) zero s h e = let same : x ≡ s = cc in subst (λ (y : ToldSlot). SmallData (data_in (Some y.content))) same h.0
slot_at (x ∷ slots) (suc i) s h e = slot_at slots i s h.1 e

-- Objects.

things_append : (xs ys : List ToldThing) → SmallThings xs → SmallThings ys → SmallThings (xs ++ ys)
things_append [] ys h k = k
things_append (x ∷ xs) ys h k = (h.0, things_append xs ys h.1 k)

strings_small : (ts : List (List ℕ)) → SmallThings (map string ts)
strings_small [] = tt
strings_small (t ∷ ts) = (tt, strings_small ts)

thing_at : (things : List ToldThing) (o : ℕ) (x : ToldThing) → SmallThings things → slice_get things o ≡ Some x → SmallThing x
thing_at [] o x h e = cc
thing_at (y ∷ things) zero x h e = let same : y ≡ x = cc in subst SmallThing same h.0
thing_at (y ∷ things) (suc o) x h e = thing_at things o x h.1 e

things_set : (things : List ToldThing) (o : ℕ) (x : ToldThing) → SmallThings things → SmallThing x → SmallThings (slice_set things o x)
things_set [] o x h k = tt
things_set (y ∷ things) zero x h k = (k, h.1)
things_set (y ∷ things) (suc o) x h k = (h.0, things_set things o x h.1 k)

things_changed : (x : ToldSlot) (y : Option ToldThing) (things : List ToldThing) (o : ℕ) → slice_get things o ≡ y → SmallThings things → SmallData (data_in (Some x.content)) → SmallThings (change_thing x y things o)
things_changed x None things o e h d = h
things_changed x (Some (plain slots)) things o e h d = things_set things o (plain (add_slot slots x)) h (slots_added slots x (thing_at things o (plain slots) h e) d)
things_changed x (Some (string t)) things o e h d = h

-- Paths.

own_small : (y : Option ToldThing) (things : List ToldThing) (o n : ℕ) → slice_get things o ≡ y → SmallThings things → SmallData (own_data y n)
own_small None things o n e h = tt
own_small (Some (plain slots)) things o n e h = slot_data n slots (thing_at things o (plain slots) h e)
own_small (Some (string t)) things o n e h = tt

data_small : (s : Loading) (o n : ℕ) → Small s → SmallData (data_of s o n)
data_small s o n h = own_small (slice_get s.things o) s.things o n refl h.things

root_small : (s : Loading) (n : ℕ) → Small s → SmallData (root s n)
root_small s n h = elim (cases_Bool (nat_eq n (number_of s.names lobby_text))) [
  | inl e ↦ rw e tt
  | inr e ↦ rw e (data_small s 0 n h)
]

at_small : (s : Loading) (o : Option ℕ) (n : ℕ) → Small s → SmallData (data_at s o n)
at_small s None n h = tt
at_small s (Some o) n h = data_small s o n h

further_small : (s : Loading) (held : Held) (n : ℕ) → Small s → SmallData (further s held n)
further_small s nothing n h = tt
further_small s (value v) n h = at_small s (object_in s v) n h
further_small s (body b) n h = tt

-- Slots that end.

slots_small : (o : ℕ) (xs : List ToldSlot) (s : Loading) → SmallThings s.things → SmallSlots xs → SmallThings (add_slots o xs s).things
slots_small o [] s h d = h
slots_small o (x ∷ xs) s h d = slots_small o xs (at_object o x s) (things_changed x (slice_get s.things o) s.things o refl h d.0) d.1

value_small : (h : Held) → SmallHeld h → SmallValue (value_in h)
value_small nothing k = tt
value_small (value v) k = k
value_small (body b) k = tt

filled_small : (n : ℕ) (f : SlotForm) (h : Held) → SmallHeld h → SmallSlots (slots_for n f h)
filled_small n form.Constant h k = (value_small h k, tt)
filled_small n (form.Assignable setter) h k = (value_small h k, (tt, tt))
filled_small n (form.Bare setter) h k = (tt, (tt, tt))
filled_small n form.Parent h k = (value_small h k, tt)
filled_small n form.Method h k = (tt, tt)

placed_small : (o : Option Open) (n : ℕ) (f : SlotForm) (s : Loading) → Small s → SmallThings (placed_in o n f s).things
placed_small None n f s h = h.things
placed_small (Some (in_object o)) n f s h = slots_small o (slots_for n f s.held) s h.things (filled_small n f s.held h.held)
placed_small (Some (in_body b)) n f s h = h.things

named_small : (x : Held) (n : ℕ) (f : SlotForm) (s : Loading) → Small s → Small (name_body x n f s)
named_small nothing n f s h = h
named_small (value v) n f s h = h
named_small (body b) n form.Method s h = record { things = h.things; held = h.held }
named_small (body b) n form.Constant s h = h
named_small (body b) n (form.Assignable setter) s h = h
named_small (body b) n (form.Bare setter) s h = h
named_small (body b) n form.Parent s h = h

slot_small : (n : ℕ) (f : SlotForm) (s : Loading) → Small s → Small (with_slot n f s)
slot_small n f s h = record { things = placed_small (innermost s.around) n f (name_body s.held n f s) (named_small s.held n f s h); held = tt }

-- Nodes.

beside_small : (bytes : List ℕ) (n : TextNode) (s : Loading) → Small s → Small (beside bytes n s)
beside_small bytes (text.Integer z) s h = h
beside_small bytes (text.Text i j) s h = record { things = things_append s.things _ h.things (tt, tt); held = h.held }
beside_small bytes text.Block s h = h
beside_small bytes text.Itself s h = h
beside_small bytes text.Nil s h = h
beside_small bytes (text.Message to w args) s h = record { things = h.things; held = h.held }
beside_small bytes (text.Primitive w args receiver handler) s h = record { things = h.things; held = h.held }
beside_small bytes text.Drop s h = h
beside_small bytes text.Restart s h = h
beside_small bytes text.Return s h = h
beside_small bytes text.End s h = h

innermost_small : (o : Option Open) (n : Node) (p : Place) (s : Loading) → Small s → Small (at_innermost o n p s)
innermost_small None n p s h = h
innermost_small (Some (in_object o)) n p s h = h
innermost_small (Some (in_body b)) n p s h = record { things = h.things; held = h.held }

node_small : (bytes : List ℕ) (m : Made) (s : Loading) → Small s → Small (with_node bytes m s)
node_small bytes m s h =
    let k = innermost_small (innermost s.around) (node_of s m.node) (place m.spot) (beside bytes m.node s) (beside_small bytes m.node s h) in
    record { things = k.things; held = k.held }

-- Items.

-- all that was loaded is small, where nothing is refused
Stays : Result Loading BuildRefusal → Type 0
Stays (Ok t) = Small t
Stays (Err e) = Unit {0}

followed_small : (p : Spot) (v : Option Value) (s : Loading) → Small s → SmallData v → Stays (followed s p v)
unfolding Stays
followed_small p None s h d = tt
followed_small p (Some v) s h d = record { things = h.things; held = d }

ended_small : (w : Words) (f : SlotForm) (p : Spot) (s : Loading) → Small s → Stays (slot_ended w f p s)
unfolding Stays
ended_small w f p s h = elim (cases_Bool (is_parent f && not (may_be_parent s s.held))) [
  | inl e ↦ rw e tt
  | inr e ↦ rw e (slot_small (word_number s.names w) f (record s { names = with_words s.names w }) (record { things = h.things; held = h.held }))
]

opened_small : (k : Bool) (s : Loading) → Small s → Small (opened k s)
opened_small true s h = record { things = things_append s.things (plain [] ∷ []) h.things (tt, tt); held = h.held }
opened_small false s h = record { things = h.things; held = h.held }

closed_small : (around : List Open) (h : Held) → SmallHeld h → SmallHeld (closed around h).1
closed_small [] h k = k
closed_small (in_object o ∷ outer) h k = tt
closed_small (in_body b ∷ outer) h k = tt

argument_small : (o : Option Open) (n : ℕ) (s : Loading) → Small s → Small (argument_in o n s)
argument_small None n s h = h
argument_small (Some (in_object o)) n s h = h
argument_small (Some (in_body b)) n s h = record { things = h.things; held = h.held }

item_small : (bytes : List ℕ) (i : Item) (rest : List Item) (s : Loading) → Small s → IsDatum IsSmall i → Stays (take_item bytes i rest s)
unfolding Stays
item_small bytes (items.Node m) rest s h d = node_small bytes m s h
item_small bytes (items.Opened p) rest s h d = opened_small (is_object 0 rest) s h
item_small bytes items.ClosedObject rest s h d = record { things = h.things; held = closed_small s.around s.held h.held }
item_small bytes items.ClosedBody rest s h d = record { things = h.things; held = closed_small s.around s.held h.held }
item_small bytes (items.Integer z) rest s h d = record { things = h.things; held = d }
item_small bytes (items.Text i j) rest s h d = record { things = things_append s.things _ h.things (tt, tt); held = tt }
item_small bytes (items.Root n p) rest s h d = followed_small p (root s n) s h (root_small s n h)
item_small bytes (items.Further n p) rest s h d = followed_small p (further s s.held n) s h (further_small s s.held n h)
item_small bytes (items.Argument n) rest s h d = let k = argument_small (innermost s.around) n s h in record { things = k.things; held = k.held }
item_small bytes (items.Named n) rest s h d = record { things = h.things; held = h.held }
item_small bytes (items.Slot w f p) rest s h d = ended_small w f p s h

taken_small : (bytes : List ℕ) (i : Item) (rest : List Item) (s t : Loading) → Small s → IsDatum IsSmall i → take_item bytes i rest s ≡ Ok t → Small t
unfolding Stays
taken_small bytes i rest s t h d e = rw e at (item_small bytes i rest s h d)

loaded_small : (bytes : List ℕ) (is : List Item) (s t : Loading) → Small s → AreData IsSmall is → Nodes.loaded bytes is s ≡ Ok t → Small t
unfolding Nodes.loaded
loaded_small bytes [] s t h d e = subst (λ (u : Loading). Small u) (ok_same s t e) h
loaded_small bytes (i ∷ is) s t h d e =
    let a = ok_bound (take_item bytes i is s) (λ u. Nodes.loaded bytes is u) t e in
    loaded_small bytes is a.0 t (taken_small bytes i is s a.0 h d.0 a.1) d.1 a.2

-- What was told.

some_value : (a b : SourceValue) → ◌≡◌ {A = Option SourceValue} (Some a) (Some b) → a ≡ b
some_value a b e = cc

told_small : (core : Core) (v : Value) (z : ℤ) → SmallValue v → value_of core v ≡ values.Int z → IsSmall z
told_small core (integer y) z h e = let same : y ≡ z = cc in subst IsSmall same h
told_small core (object o) z h e = cc
told_small core nil z h e = cc

content_small : (core : Core) (c : ToldContent) (z : ℤ) → SmallData (data_in (Some c)) → told_data (content_of core c) ≡ Some (values.Int z) → IsSmall z
content_small core (told.Constant v) z h e = told_small core v z h (some_value _ _ e)
content_small core (told.Assignable v) z h e = told_small core v z h (some_value _ _ e)
content_small core told.Assignment z h e = cc
content_small core (told.Parent v) z h e = cc
content_small core (told.Method b) z h e = cc

slots_told : (core : Core) (slots : List ToldSlot) (i : ℕ) (s : Slot) (z : ℤ) → SmallSlots slots → slice_get (map (slot_from core) slots) i ≡ Some s → told_data s.content ≡ Some (values.Int z) → IsSmall z
slots_told core [] i s z h e f = cc
slots_told core (x ∷ slots) zero s z h e f =
    let same : slot_from core x ≡ s = cc in
    content_small core x.content z h.0 (ap (λ (y : Slot). told_data y.content) same ∙ f)
slots_told core (x ∷ slots) (suc i) s z h e f = slots_told core slots i s z h.1 e f

thing_told : (core : Core) (x : ToldThing) (slots : List Slot) (i : ℕ) (s : Slot) (z : ℤ) → SmallThing x → thing_of core x ≡ Plain slots → slice_get slots i ≡ Some s → told_data s.content ≡ Some (values.Int z) → IsSmall z
thing_told core (plain told_slots) slots i s z h e at f =
    let same : slots ≡ map (slot_from core) told_slots = cc in
    slots_told core told_slots i s z h (ap (λ xs. slice_get xs i) (sym same) ∙ at) f
thing_told core (string t) slots i s z h e at f = cc

-- no string has slots
strings_told : (texts : List (List ℕ)) (k : ℕ) (slots : List Slot) → slice_get (map Text texts) k ≡ Some (Plain slots) → ⊥
strings_told [] k slots e = cc
strings_told (t ∷ texts) zero slots e = cc
strings_told (t ∷ texts) (suc k) slots e = strings_told texts k slots e

things_told : (core : Core) (xs : List ToldThing) (texts : List (List ℕ)) (k : ℕ) (slots : List Slot) (i : ℕ) (s : Slot) (z : ℤ) → SmallThings xs
    → slice_get (map (thing_of core) xs ++ map Text texts) k ≡ Some (Plain slots) → slice_get slots i ≡ Some s → told_data s.content ≡ Some (values.Int z) → IsSmall z
things_told core [] texts k slots i s z h e at f = absurd (strings_told texts k slots e)
things_told core (x ∷ xs) texts zero slots i s z h e at f = let same : thing_of core x ≡ Plain slots = cc in thing_told core x slots i s z h.0 same at f
things_told core (x ∷ xs) texts (suc k) slots i s z h e at f = things_told core xs texts k slots i s z h.1 e at f

-- What is told is no vector.
never_vector : (core : Core) (xs : List ToldThing) (texts : List (List ℕ)) (k : ℕ) (items : List SourceValue) → slice_get (map (thing_of core) xs ++ map Text texts) k ≡ Some (Vector items) → ⊥
never_vector core [] [] k items e = cc
never_vector core [] (t ∷ texts) zero items e = cc
never_vector core [] (t ∷ texts) (suc k) items e = never_vector core [] texts k items e
never_vector core (plain slots ∷ xs) texts zero items e = cc
never_vector core (string t ∷ xs) texts zero items e = cc
never_vector core (plain slots ∷ xs) texts (suc k) items e = never_vector core xs texts k items e
never_vector core (string t ∷ xs) texts (suc k) items e = never_vector core xs texts k items e

pub no_vectors : (names : List (List ℕ)) (bytes : List ℕ) (is : List Item) (w : World) → Worlds.built names bytes is ≡ Ok w → (k : ℕ) (items : List SourceValue) → slice_get w.things k ≡ Some (Vector items) → ⊥
no_vectors names bytes is w e k items at =
    let t = finished_things (Nodes.loaded bytes is (begun names)) w e in
    never_vector t.core t.loading.things fixed_strings k items (ap (λ xs. slice_get xs k) (sym t.things) ∙ at)

-- Each integer that a slot of an object holds has 30 bits.
pub small_slots : (names : List (List ℕ)) (bytes : List ℕ) (is : List Item) (w : World) → Worlds.built names bytes is ≡ Ok w → AreData IsSmall is →
    (k : ℕ) (slots : List Slot) (i : ℕ) (s : Slot) (z : ℤ) → slice_get w.things k ≡ Some (Plain slots) → slice_get slots i ≡ Some s → told_data s.content ≡ Some (values.Int z) → IsSmall z
small_slots names bytes is w e d k slots i s z at there held =
    let t = finished_things (Nodes.loaded bytes is (begun names)) w e in
    things_told t.core t.loading.things fixed_strings k slots i s z (loaded_small bytes is (begun names) t.loading (record { things = (tt, tt); held = tt }) d t.was).things
    (ap (λ xs. slice_get xs k) (sym t.things) ∙ at) there held
