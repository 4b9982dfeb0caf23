-- What was loaded stays, by number: no item takes an object away.
use Rattle.std.specs.Prelude.{◌≡◌, ℕ, ◌+◌, ◌≤◌, Bool, true, false, not, ◌&&◌, Option, None, Some, Result, Ok, Err, List, [], ◌∷◌, ◌++◌, length, slice_get, slice_set, refl}
use Rattle.std.proofs.Common.{ap, sym, ◌∙◌, inl, inr, arith, length-append}
use Rattle.std.proofs.Math.ListN.{length-set}
use Rattle.std.proofs.lemmas.Bool.{cases_Bool}
use Rattle.self_terms.specs.declared.nodes.Node.{Node}
use Rattle.self_terms.specs.declared.nodes.Place.{Place}
use Rattle.self_terms.specs.declared.values.Datum.{Datum}
use Rattle.self_grammar.specs.declared.signs.Spot.{Spot}
use Rattle.self_grammar.specs.declared.pieces.Made.{Made}
use Rattle.self_grammar.specs.declared.pieces.TextNode.{TextNode}
use Rattle.self_grammar.specs.declared.pieces.TextNode.TheVariants as text
use Rattle.self_grammar.specs.declared.pieces.SlotForm.{SlotForm}
use Rattle.self_grammar.specs.declared.pieces.SlotForm.TheVariants as form
use Rattle.self_grammar.specs.declared.pieces.Words.{Words}
use Rattle.self_grammar.specs.declared.pieces.Item.{Item}
use Rattle.self_grammar.specs.declared.pieces.Item.TheVariants as items
use Rattle.world_build.specs.declared.values.Open.{Open}
use Rattle.world_build.specs.declared.values.Open.TheVariants.{InObject as in_object, InBody as in_body}
use Rattle.world_build.specs.declared.values.Held.{Held}
use Rattle.world_build.specs.declared.values.Held.TheVariants.{Nothing as nothing, Data as value, Code as body}
use Rattle.world_build.specs.declared.slots.ToldSlot.{ToldSlot}
use Rattle.world_build.specs.declared.things.ToldThing.{ToldThing}
use Rattle.world_build.specs.declared.things.ToldThing.TheVariants.{Plain as plain, Text as string}
use Rattle.world_build.specs.declared.refusals.BuildRefusal.{BuildRefusal}
use Rattle.world_build.specs.declared.loading.Loading.{Loading}
use Rattle.world_build.specs.Names.{with_words, word_number}
use Rattle.world_build.specs.Slots.{add_slot}
use Rattle.world_build.specs.Things.{change_thing}
use Rattle.world_build.specs.Loading.{place, root, further, followed, is_object, innermost, opened, at_object, add_slots, slots_for, placed_in, name_body, with_slot, slot_ended, is_parent, may_be_parent, argument_in}
use Rattle.world_build.specs.Nodes.{beside, at_innermost, node_of, with_node, take_item}
use Rattle.world_build.specs.Nodes
use Rattle.world_build.proofs.Weights.{ok_bound, ok_same}

abbrev count : Loading → ℕ
count s = length s.things

change_count : (x : ToldSlot) (y : Option ToldThing) (things : List ToldThing) (o : ℕ) → length (change_thing x y things o) ≡ length things
change_count x None things o = refl
change_count x (Some (plain slots)) things o = length-set things o (plain (add_slot slots x))
change_count x (Some (string t)) things o = refl

slots_count : (o : ℕ) (xs : List ToldSlot) (s : Loading) → count (add_slots o xs s) ≡ count s
slots_count o [] s = refl
slots_count o (x ∷ xs) s = slots_count o xs (at_object o x s) ∙ change_count x (slice_get s.things o) s.things o

placed_count : (o : Option Open) (n : ℕ) (f : SlotForm) (s : Loading) → count (placed_in o n f s) ≡ count s
placed_count None n f s = refl
placed_count (Some (in_object o)) n f s = slots_count o (slots_for n f s.held) s
placed_count (Some (in_body b)) n f s = refl

named_count : (x : Held) (n : ℕ) (f : SlotForm) (s : Loading) → count (name_body x n f s) ≡ count s
named_count nothing n f s = refl
named_count (value v) n f s = refl
named_count (body b) n form.Method s = refl
named_count (body b) n form.Constant s = refl
named_count (body b) n (form.Assignable setter) s = refl
named_count (body b) n (form.Bare setter) s = refl
named_count (body b) n form.Parent s = refl

slot_count : (n : ℕ) (f : SlotForm) (s : Loading) → count (with_slot n f s) ≡ count s
slot_count n f s = placed_count (innermost s.around) n f (name_body s.held n f s) ∙ named_count s.held n f s

beside_count : (bytes : List ℕ) (n : TextNode) (s : Loading) → count s ≤ count (beside bytes n s)
beside_count bytes (text.Integer z) s = omega arith
beside_count bytes (text.Text i j) s = omega (arith, length-append s.things)
beside_count bytes text.Block s = omega arith
beside_count bytes text.Itself s = omega arith
beside_count bytes text.Nil s = omega arith
beside_count bytes (text.Message to w args) s = omega arith
beside_count bytes (text.Primitive w args receiver handler) s = omega arith
beside_count bytes text.Drop s = omega arith
beside_count bytes text.Restart s = omega arith
beside_count bytes text.Return s = omega arith
beside_count bytes text.End s = omega arith

innermost_count : (o : Option Open) (n : Node) (p : Place) (s : Loading) → count (at_innermost o n p s) ≡ count s
innermost_count None n p s = refl
innermost_count (Some (in_object o)) n p s = refl
innermost_count (Some (in_body b)) n p s = refl

node_count : (bytes : List ℕ) (m : Made) (s : Loading) → count s ≤ count (with_node bytes m s)
node_count bytes m s = omega (arith, beside_count bytes m.node s, innermost_count (innermost s.around) (node_of s m.node) (place m.spot) (beside bytes m.node s))

opened_count : (k : Bool) (s : Loading) → count s ≤ count (opened k s)
opened_count true s = omega (arith, length-append s.things (plain [] ∷ []))
opened_count false s = omega arith

argument_count : (o : Option Open) (n : ℕ) (s : Loading) → count (argument_in o n s) ≡ count s
argument_count None n s = refl
argument_count (Some (in_object o)) n s = refl
argument_count (Some (in_body b)) n s = refl

-- nothing is taken away, where nothing is refused
Keeps : ℕ → Result Loading BuildRefusal → Type 0
Keeps n (Ok t) = n ≤ count t
Keeps n (Err e) = Unit {0}

followed_count : (p : Spot) (v : Option Datum) (s : Loading) → Keeps (count s) (followed s p v)
unfolding Keeps
followed_count p None s = tt
followed_count p (Some v) s = omega arith

ended_count : (w : Words) (f : SlotForm) (p : Spot) (s : Loading) → Keeps (count s) (slot_ended w f p s)
unfolding Keeps
ended_count w f p s = elim (cases_Bool (is_parent f && not (may_be_parent s s.held))) [
  | inl e ↦ rw e tt
  | inr e ↦ rw e (omega (arith, slot_count (word_number s.names w) f (record s { names = with_words s.names w })))
]

item_count : (bytes : List ℕ) (i : Item) (rest : List Item) (s : Loading) → Keeps (count s) (take_item bytes i rest s)
unfolding Keeps
item_count bytes (items.Node m) rest s = node_count bytes m s
item_count bytes (items.Opened p) rest s = opened_count (is_object 0 rest) s
item_count bytes items.ClosedObject rest s = omega arith
item_count bytes items.ClosedBody rest s = omega arith
item_count bytes (items.Integer z) rest s = omega arith
item_count bytes (items.Text i j) rest s = omega (arith, length-append s.things)
item_count bytes (items.Root n p) rest s = followed_count p (root s n) s
item_count bytes (items.Further n p) rest s = followed_count p (further s s.held n) s
item_count bytes (items.Argument n) rest s = omega (arith, argument_count (innermost s.around) n s)
item_count bytes (items.Named n) rest s = omega arith
item_count bytes (items.Slot w f p) rest s = ended_count w f p s

pub taken_count : (bytes : List ℕ) (i : Item) (rest : List Item) (s t : Loading) → take_item bytes i rest s ≡ Ok t → length s.things ≤ length t.things
unfolding Keeps
taken_count bytes i rest s t e = rw e at (item_count bytes i rest s)

pub loaded_count : (bytes : List ℕ) (is : List Item) (s t : Loading) → Nodes.loaded bytes is s ≡ Ok t → length s.things ≤ length t.things
unfolding Nodes.loaded
loaded_count bytes [] s t e = omega (arith, ap count (ok_same s t e))
loaded_count bytes (i ∷ is) s t e =
    let a = ok_bound (take_item bytes i is s) (λ u. Nodes.loaded bytes is u) t e in
    omega (arith, taken_count bytes i is s a.0 a.1, loaded_count bytes is a.0 t a.2)
