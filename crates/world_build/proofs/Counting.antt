-- The objects, the strings and the size of a world are those that its items begin and count.
use Rattle.std.specs.Prelude.{◌≡◌, ℕ, zero, suc, ◌+◌, Bool, true, false, not, ◌&&◌, Option, None, Some, Result, Ok, Err, List, [], ◌∷◌, ◌++◌, map, slice_get, slice_set, refl}
use Rattle.std.proofs.Common.{ap, sym, ◌∙◌, arith, inl, inr, append_assoc, append-nil}
use Rattle.std.proofs.lemmas.Bool.{cases_Bool}
use Rattle.self_terms.specs.declared.values.Datum.{Datum as Value}
use Rattle.self_grammar.specs.declared.signs.Spot.{Spot}
use Rattle.self_grammar.specs.declared.pieces.Words.{Words}
use Rattle.self_grammar.specs.declared.pieces.TextNode.{TextNode}
use Rattle.self_grammar.specs.declared.pieces.TextNode.TheVariants as text
use Rattle.self_grammar.specs.declared.pieces.SlotForm.{SlotForm}
use Rattle.self_grammar.specs.declared.pieces.Item.{Item}
use Rattle.self_grammar.specs.declared.pieces.Item.TheVariants as items
use Rattle.world_build.specs.declared.values.Open.{Open}
use Rattle.world_build.specs.declared.values.Open.TheVariants.{InObject as in_object, InBody as in_body}
use Rattle.world_build.specs.declared.slots.ToldSlot.{ToldSlot}
use Rattle.world_build.specs.declared.things.ToldThing.{ToldThing}
use Rattle.world_build.specs.declared.things.ToldThing.TheVariants.{Plain as plain, Text as string}
use Rattle.world_build.specs.declared.refusals.BuildRefusal.{BuildRefusal}
use Rattle.world_build.specs.declared.loading.Loading.{Loading}
use Rattle.world_build.specs.Names.{with_words, word_number}
use Rattle.world_build.specs.Slots.{add_slot}
use Rattle.world_build.specs.Things.{change_thing}
use Rattle.world_build.specs.Loading.{place, root, further, followed, is_object, innermost, opened, at_object, add_slots, slots_for, placed_in, name_body, with_slot, slot_ended, is_parent, may_be_parent}
use Rattle.world_build.specs.Nodes.{beside, node_of, take_item}
use Rattle.world_build.specs.Nodes
use Rattle.world_build.specs.Numbers.{TextObject, object_literal, string_literal, node_objects, opened_objects, item_objects, text_objects, one_for, item_size, size_of}
use Rattle.world_build.proofs.Weights.{ok_bound, ok_same, same_named, same_innermost, same_argument}

pub map_append : {X Y : Type 0} (f : X → Y) (xs ys : List X) → map f (xs ++ ys) ≡ map f xs ++ map f ys
map_append f [] ys = refl
map_append f (x ∷ xs) ys = ap (λ zs. f x ∷ zs) (map_append f xs ys)

abbrev pub told_object : ToldThing → TextObject
told_object (plain slots) = object_literal
told_object (string t) = string_literal t

-- what was loaded, its slots forgotten
abbrev pub told : Loading → List TextObject
told s = map told_object s.things

-- Slots change no object for another.

set_told : (things : List ToldThing) (o : ℕ) (x y : ToldThing) → slice_get things o ≡ Some x → told_object y ≡ told_object x → map told_object (slice_set things o y) ≡ map told_object things
set_told [] o x y e h = cc
set_told (z ∷ things) zero x y e h = let same : z ≡ x = cc in ap (λ l. l ∷ map told_object things) (h ∙ ap told_object (sym same))
set_told (z ∷ things) (suc o) x y e h = ap (λ ls. told_object z ∷ ls) (set_told things o x y e h)

change_told : (x : ToldSlot) (y : Option ToldThing) (things : List ToldThing) (o : ℕ) → slice_get things o ≡ y → map told_object (change_thing x y things o) ≡ map told_object things
change_told x None things o e = refl
change_told x (Some (plain slots)) things o e = set_told things o (plain slots) (plain (add_slot slots x)) e refl
change_told x (Some (string t)) things o e = refl

slots_told : (o : ℕ) (xs : List ToldSlot) (s : Loading) → told (add_slots o xs s) ≡ told s
slots_told o [] s = refl
slots_told o (x ∷ xs) s = slots_told o xs (at_object o x s) ∙ change_told x (slice_get s.things o) s.things o refl

placed_told : (o : Option Open) (n : ℕ) (f : SlotForm) (s : Loading) → told (placed_in o n f s) ≡ told s
placed_told None n f s = refl
placed_told (Some (in_object o)) n f s = slots_told o (slots_for n f s.held) s
placed_told (Some (in_body b)) n f s = refl

slot_told : (n : ℕ) (f : SlotForm) (s : Loading) → told (with_slot n f s) ≡ told s
slot_told n f s = placed_told (innermost s.around) n f (name_body s.held n f s) ∙ ap (λ ts. map told_object ts) (same_named s.held n f s)

-- Items.

none_more : (s t : Loading) → told t ≡ told s → told t ≡ told s ++ []
none_more s t e = e ∙ sym (append-nil (told s))

beside_told : (bytes : List ℕ) (n : TextNode) (s : Loading) → told (beside bytes n s) ≡ told s ++ node_objects bytes n
beside_told bytes (text.Integer z) s = none_more s s refl
beside_told bytes (text.Text i j) s = map_append told_object s.things _
beside_told bytes text.Block s = none_more s s refl
beside_told bytes text.Itself s = none_more s s refl
beside_told bytes text.Nil s = none_more s s refl
beside_told bytes (text.Message to w args) s = none_more s s refl
beside_told bytes (text.Primitive w args receiver handler) s = none_more s s refl
beside_told bytes text.Drop s = none_more s s refl
beside_told bytes text.Restart s = none_more s s refl
beside_told bytes text.Return s = none_more s s refl
beside_told bytes text.End s = none_more s s refl

-- what an item adds, where it isn't refused
abbrev Gets : Loading → List TextObject → ℕ → Result Loading BuildRefusal → Type 0
Gets s ls k (Ok t) = (told t ≡ told s ++ ls) × (t.size ≡ s.size + k)
Gets s ls k (Err e) = Unit {0}

followed_gets : (p : Spot) (v : Option Value) (s : Loading) → Gets s [] 0 (followed s p v)
followed_gets p None s = tt
followed_gets p (Some v) s = (none_more s s refl, omega arith)

ended_gets : (w : Words) (f : SlotForm) (p : Spot) (s : Loading) → Gets s [] 1 (slot_ended w f p s)
ended_gets w f p s = elim (cases_Bool (is_parent f && not (may_be_parent s s.held))) [
  | inl e ↦ rw e tt
  | inr e ↦ rw e (named, omega arith)
]
  where
    named : told (with_slot (word_number s.names w) f (record s { names = with_words s.names w })) ≡ told s ++ []
    named = slot_told (word_number s.names w) f (record s { names = with_words s.names w }) ∙ sym (append-nil (told s))

opened_gets : (b : Bool) (s : Loading) → Gets s (opened_objects b) (one_for b) (Ok (opened b s))
opened_gets true s = (map_append told_object s.things (plain [] ∷ []), refl)
opened_gets false s = (none_more s s refl, omega arith)

item_gets : (bytes : List ℕ) (i : Item) (rest : List Item) (s : Loading) → Gets s (item_objects bytes i rest) (item_size i rest) (take_item bytes i rest s)
item_gets bytes (items.Node m) rest s =
    (ap (λ ts. map told_object ts) (same_innermost (innermost s.around) (node_of s m.node) (place m.spot) (beside bytes m.node s)) ∙ beside_told bytes m.node s, refl)
item_gets bytes (items.Opened p) rest s = opened_gets (is_object 0 rest) s
item_gets bytes items.ClosedObject rest s = (none_more s s refl, omega arith)
item_gets bytes items.ClosedBody rest s = (none_more s s refl, omega arith)
item_gets bytes (items.Integer z) rest s = (none_more s s refl, omega arith)
item_gets bytes (items.Text i j) rest s = (map_append told_object s.things _, omega arith)
item_gets bytes (items.Root n p) rest s = followed_gets p (root s n) s
item_gets bytes (items.Further n p) rest s = followed_gets p (further s s.held n) s
item_gets bytes (items.Argument n) rest s = (ap (λ ts. map told_object ts) (same_argument (innermost s.around) n s) ∙ sym (append-nil (told s)), refl)
item_gets bytes (items.Named n) rest s = (none_more s s refl, refl)
item_gets bytes (items.Slot w f p) rest s = ended_gets w f p s

item_got : (bytes : List ℕ) (i : Item) (rest : List Item) (s t : Loading) → take_item bytes i rest s ≡ Ok t → (told t ≡ told s ++ item_objects bytes i rest) × (t.size ≡ s.size + item_size i rest)
item_got bytes i rest s t e = rw e at (item_gets bytes i rest s)

-- All items.
pub all_got : (bytes : List ℕ) (is : List Item) (s t : Loading) → Nodes.loaded bytes is s ≡ Ok t → (told t ≡ told s ++ text_objects bytes is) × (t.size ≡ s.size + size_of is)
unfolding Nodes.loaded
all_got bytes [] s t e = let same : s ≡ t = ok_same s t e in (ap told (sym same) ∙ sym (append-nil (told s)), ap (λ (u : Loading). u.size) (sym same) ∙ omega arith)
all_got bytes (i ∷ is) s t e =
    let a = ok_bound (take_item bytes i is s) (λ u. Nodes.loaded bytes is u) t e in
    let one = item_got bytes i is s a.0 a.1 in
    let more = all_got bytes is a.0 t a.2 in
    (more.0 ∙ ap (λ ls. ls ++ text_objects bytes is) one.0 ∙ append_assoc (told s) (item_objects bytes i is) (text_objects bytes is), omega (arith, more.1, one.1))
