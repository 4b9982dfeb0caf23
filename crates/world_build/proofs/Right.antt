-- The bodies of the world of items that are right have few arguments and locals, and name what is there.
use Rattle.std.specs.Prelude.{◌≡◌, ℕ, ◌<◌, ◌≤◌, Result, Ok, Err, List, [], ◌∷◌, length, map, slice_get, Some, refl}
use Rattle.std.proofs.Common.{ap, sym, subst, arith, length-append}
use Rattle.std.proofs.lemmas.List.{length-map}
use Rattle.self_terms.specs.declared.bodies.Body.{Body}
use Rattle.self_terms.specs.Words.{IsSmall}
use Rattle.self_grammar.specs.declared.pieces.Item.{Item}
use Rattle.self_grammar.specs.declared.pieces.Item.TheVariants as items
use Rattle.source_model.specs.declared.objects.Thing.TheVariants.{Text}
use Rattle.world_build.specs.declared.refusals.BuildRefusal.{BuildRefusal}
use Rattle.world_build.specs.declared.loading.Loading.{Loading}
use Rattle.world_build.specs.Names.{core_names}
use Rattle.world_build.specs.Loading.{begun}
use Rattle.world_build.specs.Nodes.{take_item}
use Rattle.world_build.specs.Nodes
use Rattle.world_build.specs.Telling.{core_of, thing_of}
use Rattle.world_build.specs.Wholeness.{AreData}
use Rattle.world_build.specs.Worlds.{World, fixed_strings}
use Rattle.world_build.specs.Worlds
use Rattle.world_build.proofs.Growth.{loaded_count}
use Rattle.world_build.proofs.Weights.{ok_bound, ok_same}
use Rattle.world_build.proofs.Keeps.{Entry, entry, outer, argued, slotted, Fits, waits, behind, Keeps}
use Rattle.world_build.proofs.Contents.{AllThere, taken_there, begun_there}
use Rattle.world_build.proofs.Shapes.{IsFewShape, shape, Holds, follows_length, step_holds, begins_holds, ends_few}
use Rattle.world_build.proofs.Sure.{AllSure, IsShortItem, step_sure}

-- All items.

length_outer : (es : List Entry) → length (outer es) ≤ length es
length_outer [] = omega arith
length_outer (e ∷ es) = omega arith

length_argued : (es : List Entry) → length (argued es) ≤ length es
length_argued [] = omega arith
length_argued (e ∷ es) = omega arith

length_slotted : (es : List Entry) → length (slotted es) ≤ length es
length_slotted [] = omega arith
length_slotted (e ∷ es) = omega arith

few_behind : (n : ℕ) (es : List Entry) (i : Item) → length es ≤ 65 → Fits n es i → length (behind n es i) ≤ 65
few_behind n es (items.Node m) few h = few
few_behind n es (items.Opened p) few h = let low : length es ≤ 64 = h.0 in omega arith
few_behind n es items.ClosedObject few h = omega (arith, few, length_outer es)
few_behind n es items.ClosedBody few h = omega (arith, few, length_outer es)
few_behind n es (items.Integer z) few h = few
few_behind n es (items.Text i j) few h = few
few_behind n es (items.Root k p) few h = few
few_behind n es (items.Further k p) few h = few
few_behind n es (items.Argument k) few h = omega (arith, few, length_argued es)
few_behind n es (items.Named k) few h = few
few_behind n es (items.Slot w f p) few h = omega (arith, few, length_slotted es)

short_item : (n : ℕ) (es : List Entry) (i : Item) → Fits n es i → IsShortItem i
short_item n es (items.Node m) h = h
short_item n es (items.Opened p) h = tt
short_item n es items.ClosedObject h = tt
short_item n es items.ClosedBody h = tt
short_item n es (items.Integer z) h = tt
short_item n es (items.Text i j) h = tt
short_item n es (items.Root k p) h = tt
short_item n es (items.Further k p) h = tt
short_item n es (items.Argument k) h = tt
short_item n es (items.Named k) h = tt
short_item n es (items.Slot w f p) h = tt

-- what is so of the bodies of all that was read
pub record Right (n : ℕ) (bodies : List Body) : Type 0 where
  pub few : (k : ℕ) (b : Body) → slice_get bodies k ≡ Some b → IsFewShape (shape b)
  pub sure : AllSure n bodies

runs : (n : ℕ) (bytes : List ℕ) (is : List Item) (s t : Loading) (k : ℕ) (es : List Entry) → 0 < n → length es ≤ 65 → Keeps k es is → Holds k es s is → AllThere n s → AllSure n s.bodies → AreData IsSmall is →
    Nodes.loaded bytes is s ≡ Ok t → length t.things ≤ n → Right n t.bodies
unfolding Nodes.loaded
runs n bytes [] s t k es some low keeps holds there sure of e most =
    let same = ok_same s t e in
    subst (λ (u : Loading). Right n u.bodies) same (record { few = ends_few k es s keeps holds; sure = sure })
runs n bytes (i ∷ is) s t k es some low keeps holds there sure of e most =
    let a = ok_bound (take_item bytes i is s) (λ u. Nodes.loaded bytes is u) t e in
    let more : length a.0.things ≤ length t.things = loaded_count bytes is a.0 t a.2 in
    let long : length s.around ≡ length es = follows_length _ es s.around holds.stands.follows in
    runs n bytes is a.0 t (waits k i) (behind k es i) some (few_behind k es i low keeps.0) keeps.1 (step_holds bytes k es i is s a.0 keeps holds a.1)
    (taken_there n bytes i is s a.0 some there of.0 a.1 (omega arith))
    (step_sure n bytes i is s a.0 (omega arith) (omega arith) there (short_item k es i keeps.0) sure a.1) of.1 a.2 most

-- A world, and what it was made of.
record Made (r : Result Loading BuildRefusal) (w : World) : Type 0 where
  loading : Loading
  was : r ≡ Ok loading
  bodies : w.bodies ≡ loading.bodies
  things : length loading.things ≤ length w.things

world_same : (a b : World) → ◌≡◌ {A = Result World BuildRefusal} (Ok a) (Ok b) → a ≡ b
world_same a b e = cc

made_with : (t : Loading) (c : Result (List ℕ) BuildRefusal) (w : World) → Worlds.world_of t c ≡ Ok w → Made (Ok t) w
made_with t (Err q) w e = cc
made_with t (Ok numbers) w e =
    let same = world_same (Worlds.world_with t (core_of numbers)) w e in
    record {
      loading = t;
      was = refl;
      bodies = ap (λ (x : World). x.bodies) (sym same);
      things = subst (λ (x : World). length t.things ≤ length x.things) same
          (omega (arith, length-append (map (thing_of (core_of numbers)) t.things) (map Text fixed_strings), length-map t.things (thing_of (core_of numbers))));
    }

made_of : (r : Result Loading BuildRefusal) (w : World) → Worlds.finished r ≡ Ok w → Made r w
made_of (Err q) w e = cc
made_of (Ok t) w e = made_with t (Worlds.cores t core_names) w e

pub world_right : (names : List (List ℕ)) (bytes : List ℕ) (is : List Item) (w : World) → Keeps 0 (entry 0 0 0 ∷ []) is → AreData IsSmall is → Worlds.built names bytes is ≡ Ok w → (n : ℕ) × (n ≤ length w.things) × Right n w.bodies
world_right names bytes is w keeps of e =
    let m = made_of (Nodes.loaded bytes is (begun names)) w e in
    let n : ℕ = length m.loading.things in
    let some : 0 < n = (let grown = loaded_count bytes is (begun names) m.loading m.was in omega arith) in (
      n,
      m.things,
      subst (λ bodies. Right n bodies) (sym m.bodies)
          (runs n bytes is (begun names) m.loading 0 (entry 0 0 0 ∷ []) some (omega arith) keeps (begins_holds names is) (begun_there n names some) (λ k b at. cc) of m.was (omega arith)),
    )
