-- What the items of a text build is no heavier than what they ask for, whatever objects weigh, in quarters of a word, where an
-- empty one weighs at most eight, a string at most fifteen beside its bytes, and the slots that one item adds at most four.
use Rattle.std.specs.Prelude.{◌≡◌, ℕ, zero, suc, ◌+◌, ◌-◌, ◌≤◌, ◌==◌, nat_le, Bool, true, false, not, ◌&&◌, Option, None, Some, Result, Ok, Err, List, [], ◌∷◌, ◌++◌, length, take, drop, map, slice_get, slice_set, refl}
use Rattle.std.specs.List.{list_any}
use Rattle.std.proofs.Common.{ap, sym, arith, inl, inr}
use Rattle.std.proofs.lemmas.Bool.{cases_Bool}
use Rattle.self_terms.specs.declared.nodes.Node.{Node}
use Rattle.self_terms.specs.declared.nodes.Place.{Place}
use Rattle.self_terms.specs.declared.values.Datum.{Datum as Value}
use Rattle.self_tokens.specs.Texts.{unescaped_from}
use Rattle.self_grammar.specs.declared.signs.Spot.{Spot}
use Rattle.self_grammar.specs.declared.pieces.Made.{Made}
use Rattle.self_grammar.specs.declared.pieces.TextNode.{TextNode}
use Rattle.self_grammar.specs.declared.pieces.TextNode.TheVariants as text
use Rattle.self_grammar.specs.declared.pieces.SlotForm.{SlotForm}
use Rattle.self_grammar.specs.declared.pieces.SlotForm.TheVariants as form
use Rattle.self_grammar.specs.declared.pieces.Words.{Words}
use Rattle.self_grammar.specs.declared.pieces.Item.{Item}
use Rattle.self_grammar.specs.declared.pieces.Item.TheVariants as items
use Rattle.source_model.specs.declared.objects.Thing.TheVariants.{Text}
use Rattle.source_model.specs.declared.objects.Core.{Core}
use Rattle.world_build.specs.Telling.{core_of, thing_of}
use Rattle.world_build.specs.declared.values.Open.{Open}
use Rattle.world_build.specs.declared.values.Open.TheVariants.{InObject as in_object, InBody as in_body}
use Rattle.world_build.specs.declared.values.Held.{Held}
use Rattle.world_build.specs.declared.values.Held.TheVariants.{Nothing as nothing, Data as value, Code as body}
use Rattle.world_build.specs.declared.slots.ToldContent.{ToldContent}
use Rattle.world_build.specs.declared.slots.ToldSlot.{ToldSlot}
use Rattle.world_build.specs.declared.things.ToldThing.{ToldThing}
use Rattle.world_build.specs.declared.things.ToldThing.TheVariants.{Plain as plain, Text as string}
use Rattle.world_build.specs.declared.refusals.BuildRefusal.{BuildRefusal}
use Rattle.world_build.specs.declared.loading.Loading.{Loading}
use Rattle.world_build.specs.Names.{core_names, with_words, word_number}
use Rattle.world_build.specs.Slots.{is_named, add_slot}
use Rattle.world_build.specs.Things.{change_thing}
use Rattle.world_build.specs.Loading.{begun, place, root, further, followed, is_object, innermost, opened, between, at_object, add_slots, slots_for, placed_in, name_body, with_slot, slot_ended, is_parent, may_be_parent, argument_in}
use Rattle.world_build.specs.Nodes.{beside, at_innermost, node_of, with_node, take_item}
use Rattle.world_build.specs.Nodes
use Rattle.world_build.specs.Worlds.{World, fixed_strings}
use Rattle.world_build.specs.Worlds
use Rattle.world_build.proofs.Heavy.{node_load, load, loads}

-- the weight of all objects, where each has its own
abbrev pub weight_of : (ToldThing → ℕ) → List ToldThing → ℕ
weight_of m [] = 0
weight_of m (x ∷ xs) = m x + weight_of m xs

-- the weight that slots add
abbrev pub added_by : (ToldContent → ℕ) → List ToldSlot → ℕ
added_by g [] = 0
added_by g (x ∷ xs) = g x.content + added_by g xs

-- Objects of these weights, to which slots add such weights, are no heavier than what their items ask for.
pub record AreCarried (m : ToldThing → ℕ) (g : ToldContent → ℕ) : Type 0 where
  pub empty : m (plain []) ≤ 8
  pub text : (t : List ℕ) → m (string t) ≤ 15 + length t
  pub more : (slots : List ToldSlot) (x : ToldSlot) → m (plain (slots ++ x ∷ [])) ≤ m (plain slots) + g x.content
  pub few : (n : ℕ) (f : SlotForm) (h : Held) → added_by g (slots_for n f h) ≤ 4

-- Strings.

-- An escape stands for one byte, so no text grows.
short_text : (escaped : Bool) (text : List ℕ) → length (unescaped_from escaped text) ≤ length text
short_text escaped [] = omega arith
short_text true (b ∷ text) = omega (arith, short_text false text)
short_text false (b ∷ text) = elim (cases_Bool (b == 92)) [
  | inl h ↦ rw h (omega (arith, short_text true text))
  | inr h ↦ rw h (omega (arith, short_text false text))
]

short_take : (n : ℕ) (xs : List ℕ) → length (take n xs) ≤ n
short_take zero xs = omega arith
short_take (suc n) [] = omega arith
short_take (suc n) (x ∷ xs) = omega (arith, short_take n xs)

short_between : (bytes : List ℕ) (i j : ℕ) → length (between bytes i j) ≤ j - i
short_between bytes i j = elim (cases_Bool (nat_le i j && nat_le j (length bytes))) [
  | inl h ↦ rw h (short_take (j - i) (drop i bytes))
  | inr h ↦ rw h (omega arith)
]

-- the object of a string between two places
abbrev string_at : List ℕ → ℕ → ℕ → ToldThing
string_at bytes i j = string (unescaped_from false (between bytes i j))

-- Lists of objects.

weight_append : (m : ToldThing → ℕ) (xs ys : List ToldThing) → weight_of m (xs ++ ys) ≡ weight_of m xs + weight_of m ys
weight_append m [] ys = omega arith
weight_append m (x ∷ xs) ys = omega (arith, weight_append m xs ys)

weight_set : (m : ToldThing → ℕ) (things : List ToldThing) (o : ℕ) (x y : ToldThing) → slice_get things o ≡ Some x → weight_of m (slice_set things o y) + m x ≡ weight_of m things + m y
weight_set m [] o x y e = cc
weight_set m (z ∷ things) zero x y e = let same : z ≡ x = cc in omega (arith, ap m same)
weight_set m (z ∷ things) (suc o) x y e = omega (arith, weight_set m things o x y e)

-- What changes no object.

pub same_named : (h : Held) (n : ℕ) (f : SlotForm) (s : Loading) → (name_body h n f s).things ≡ s.things
same_named nothing n f s = refl
same_named (value v) n f s = refl
same_named (body b) n form.Method s = refl
same_named (body b) n form.Constant s = refl
same_named (body b) n (form.Assignable setter) s = refl
same_named (body b) n (form.Bare setter) s = refl
same_named (body b) n form.Parent s = refl

pub same_innermost : (o : Option Open) (n : Node) (p : Place) (s : Loading) → (at_innermost o n p s).things ≡ s.things
same_innermost None n p s = refl
same_innermost (Some (in_object o)) n p s = refl
same_innermost (Some (in_body b)) n p s = refl

pub same_argument : (o : Option Open) (n : ℕ) (s : Loading) → (argument_in o n s).things ≡ s.things
same_argument None n s = refl
same_argument (Some (in_object o)) n s = refl
same_argument (Some (in_body b)) n s = refl

pub ok_bound : (r : Result Loading BuildRefusal) (f : Loading → Result Loading BuildRefusal) (t : Loading) → Nodes.bound r f ≡ Ok t → (u : Loading) × (r ≡ Ok u) × (f u ≡ Ok t)
ok_bound (Ok u) f t e = (u, refl, e)
ok_bound (Err r) f t e = cc

pub ok_same : (s u : Loading) → ◌≡◌ {A = Result Loading BuildRefusal} (Ok s) (Ok u) → s ≡ u
ok_same s u e = cc

world_same : (a b : World) → ◌≡◌ {A = Result World BuildRefusal} (Ok a) (Ok b) → a ≡ b
world_same a b e = cc

-- what a world's items built, told with its core objects, behind which its fixed strings stand
pub record IsFinished (r : Result Loading BuildRefusal) (w : World) : Type 0 where
  pub loading : Loading
  pub was : r ≡ Ok loading
  pub core : Core
  pub things : w.things ≡ map (thing_of core) loading.things ++ map Text fixed_strings

finished_so : (t : Loading) (c : Result (List ℕ) BuildRefusal) (w : World) → Worlds.world_of t c ≡ Ok w → IsFinished (Ok t) w
finished_so t (Err q) w e = cc
finished_so t (Ok core) w e = record { loading = t; was = refl; core = core_of core; things = ap (λ (x : World). x.things) (sym (world_same _ w e)) }

pub finished_things : (r : Result Loading BuildRefusal) (w : World) → Worlds.finished r ≡ Ok w → IsFinished r w
finished_things (Err r) w e = cc
finished_things (Ok t) w e = finished_so t (Worlds.cores t core_names) w e

module _ (m : ToldThing → ℕ) (g : ToldContent → ℕ) (k : AreCarried m g) where
  -- the weight of what was loaded
  abbrev loaded_weight : Loading → ℕ
  loaded_weight s = weight_of m s.things

  string_weight : (bytes : List ℕ) (i j : ℕ) → m (string_at bytes i j) ≤ 15 + (j - i)
  string_weight bytes i j = omega (arith, k.text (unescaped_from false (between bytes i j)), short_text false (between bytes i j), short_between bytes i j)

  -- Slots.

  added_weight : (slots : List ToldSlot) (x : ToldSlot) → m (plain (add_slot slots x)) ≤ m (plain slots) + g x.content
  added_weight slots x = elim (cases_Bool (list_any (is_named x.name) slots)) [
    | inl h ↦ rw h (omega arith)
    | inr h ↦ rw h (k.more slots x)
  ]

  changed_weight : (x : ToldSlot) (y : Option ToldThing) (things : List ToldThing) (o : ℕ) → slice_get things o ≡ y → weight_of m (change_thing x y things o) ≤ weight_of m things + g x.content
  changed_weight x None things o e = omega arith
  changed_weight x (Some (plain slots)) things o e = omega (arith, weight_set m things o (plain slots) (plain (add_slot slots x)) e, added_weight slots x)
  changed_weight x (Some (string t)) things o e = omega arith

  slots_weight : (o : ℕ) (xs : List ToldSlot) (s : Loading) → loaded_weight (add_slots o xs s) ≤ loaded_weight s + added_by g xs
  slots_weight o [] s = omega arith
  slots_weight o (x ∷ xs) s = omega (arith, slots_weight o xs (at_object o x s), changed_weight x (slice_get s.things o) s.things o refl)

  placed_weight : (o : Option Open) (n : ℕ) (f : SlotForm) (s : Loading) → loaded_weight (placed_in o n f s) ≤ loaded_weight s + 4
  placed_weight None n f s = omega arith
  placed_weight (Some (in_object o)) n f s = omega (arith, slots_weight o (slots_for n f s.held) s, k.few n f s.held)
  placed_weight (Some (in_body b)) n f s = omega arith

  slot_weight : (n : ℕ) (f : SlotForm) (s : Loading) → loaded_weight (with_slot n f s) ≤ loaded_weight s + 4
  slot_weight n f s = omega (arith, placed_weight (innermost s.around) n f (name_body s.held n f s), ap (weight_of m) (same_named s.held n f s))

  -- Nodes.

  beside_weight : (bytes : List ℕ) (n : TextNode) (s : Loading) → loaded_weight (beside bytes n s) ≤ loaded_weight s + node_load n
  beside_weight bytes (text.Integer z) s = omega arith
  beside_weight bytes (text.Text i j) s = omega (arith, weight_append m s.things (string_at bytes i j ∷ []), string_weight bytes i j)
  beside_weight bytes text.Block s = omega arith
  beside_weight bytes text.Itself s = omega arith
  beside_weight bytes text.Nil s = omega arith
  beside_weight bytes (text.Message to w args) s = omega arith
  beside_weight bytes (text.Primitive w args receiver handler) s = omega arith
  beside_weight bytes text.Drop s = omega arith
  beside_weight bytes text.Restart s = omega arith
  beside_weight bytes text.Return s = omega arith
  beside_weight bytes text.End s = omega arith

  node_weight : (bytes : List ℕ) (n : Made) (s : Loading) → loaded_weight (with_node bytes n s) ≤ loaded_weight s + node_load n.node
  node_weight bytes n s =
      omega (arith, beside_weight bytes n.node s, ap (weight_of m) (same_innermost (innermost s.around) (node_of s n.node) (place n.spot) (beside bytes n.node s)))

  -- Items.

  -- What was loaded weighs at most so much, where nothing is refused.
  Holds : ℕ → Result Loading BuildRefusal → Type 0
  Holds n (Ok t) = loaded_weight t ≤ n
  Holds n (Err e) = Unit {0}

  followed_weight : (n : ℕ) (p : Spot) (v : Option Value) (s : Loading) → loaded_weight s ≤ n → Holds n (followed s p v)
  unfolding Holds
  followed_weight n p None s h = tt
  followed_weight n p (Some v) s h = h

  ended_weight : (n : ℕ) (w : Words) (f : SlotForm) (p : Spot) (s : Loading) → loaded_weight s + 4 ≤ n → Holds n (slot_ended w f p s)
  unfolding Holds
  ended_weight n w f p s h = elim (cases_Bool (is_parent f && not (may_be_parent s s.held))) [
    | inl e ↦ rw e tt
    | inr e ↦ rw e (omega (arith, h, slot_weight (word_number s.names w) f (record s { names = with_words s.names w })))
  ]

  opened_weight : (b : Bool) (s : Loading) → loaded_weight (opened b s) ≤ loaded_weight s + 8
  opened_weight true s = omega (arith, weight_append m s.things (plain [] ∷ []), k.empty)
  opened_weight false s = omega arith

  item_weight : (bytes : List ℕ) (i : Item) (rest : List Item) (s : Loading) → Holds (loaded_weight s + load i) (take_item bytes i rest s)
  unfolding Holds
  item_weight bytes (items.Node n) rest s = node_weight bytes n s
  item_weight bytes (items.Opened p) rest s = opened_weight (is_object 0 rest) s
  item_weight bytes items.ClosedObject rest s = omega arith
  item_weight bytes items.ClosedBody rest s = omega arith
  item_weight bytes (items.Integer z) rest s = omega arith
  item_weight bytes (items.Text i j) rest s = omega (arith, weight_append m s.things (string_at bytes i j ∷ []), string_weight bytes i j)
  item_weight bytes (items.Root n p) rest s = followed_weight (loaded_weight s + 0) p (root s n) s (omega arith)
  item_weight bytes (items.Further n p) rest s = followed_weight (loaded_weight s + 0) p (further s s.held n) s (omega arith)
  item_weight bytes (items.Argument n) rest s = omega (arith, ap (weight_of m) (same_argument (innermost s.around) n s))
  item_weight bytes (items.Named n) rest s = omega arith
  item_weight bytes (items.Slot w f p) rest s = ended_weight (loaded_weight s + 4) w f p s (omega arith)

  taken_weight : (bytes : List ℕ) (i : Item) (rest : List Item) (s t : Loading) → take_item bytes i rest s ≡ Ok t → loaded_weight t ≤ loaded_weight s + load i
  unfolding Holds
  taken_weight bytes i rest s t e = rw e at (item_weight bytes i rest s)

  all_weight : (bytes : List ℕ) (is : List Item) (s t : Loading) → Nodes.loaded bytes is s ≡ Ok t → loaded_weight t ≤ loaded_weight s + loads is
  unfolding Nodes.loaded
  all_weight bytes [] s t e = let same : s ≡ t = ok_same s t e in omega (arith, ap loaded_weight same)
  all_weight bytes (i ∷ is) s t e =
      let a = ok_bound (take_item bytes i is s) (λ u. Nodes.loaded bytes is u) t e in
      omega (arith, all_weight bytes is a.0 t a.2, taken_weight bytes i is s a.0 a.1)

  -- What was loaded weighs at most what its items ask for, and the lobby.
  pub told_weight : (bytes : List ℕ) (is : List Item) (names : List (List ℕ)) (t : Loading) → Nodes.loaded bytes is (begun names) ≡ Ok t → weight_of m t.things ≤ loads is + 8
  told_weight bytes is names t e = omega (arith, all_weight bytes is (begun names) t e, k.empty)
