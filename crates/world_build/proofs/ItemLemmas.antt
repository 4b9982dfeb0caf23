-- One item of a list, and those behind it.
use Rattle.std.proofs.Common.{◌≡◌, ℕ, ◌+◌, ◌<◌, ◌≤◌, Bool, List, ◌∷◌, drop, length, get_or, refl, sym, ap, ◌∙◌, arith}
use Rattle.std.specs.Prelude.{Ok, Err}
use Rattle.std.proofs.Math.ListN.{drop_of_length-le}
use Rattle.std.proofs.lemmas.Option.{slice_get-get_or}
use Rattle.self_grammar.specs.declared.pieces.Item.{Item}
use Rattle.world_build.specs.declared.refusals.BuildRefusal.{BuildRefusal}
use Rattle.world_build.specs.declared.loading.Loading.{Loading}
use Rattle.world_build.specs.Nodes.{take_item, bound, loaded}
use Rattle.world_build.specs.Kinds.{openings, kind_at, kinds_behind}
use Rattle.world_build.specs.Steps.{take_one, IsWithin}
use Rattle.world_build.proofs.Fronts.{drop_there}
use Rattle.world_build.proofs.KindLemmas.{taken_one, kinds_left}
use Rattle.world_build.proofs.Room.{within_more}

pub wider : (m n : ℕ) (s : Loading) → m ≤ n → IsWithin m s → IsWithin n s
wider m n s h w = record { names = omega (arith, w.names); things = omega (arith, w.things); bodies = omega (arith, w.bodies); size = omega (arith, w.size) }

module _ (bytes : List ℕ) (items : List Item) (at : ℕ) (d : Item) (kinds : List Bool) (object : Bool) (h : at < length items)
    (k : kinds ≡ openings (drop at items)) (o : object ≡ kind_at (get_or items at d) kinds) where
  here : drop at items ≡ get_or items at d ∷ drop (at + 1) items
  here = drop_there items at (get_or items at d) (slice_get-get_or items at d h)

  opens : kinds ≡ openings (get_or items at d ∷ drop (at + 1) items)
  opens = k ∙ ap openings here

  taken : (s : Loading) → take_one bytes object (get_or items at d) s ≡ take_item bytes (get_or items at d) (drop (at + 1) items) s
  taken s = ap (λ b. take_one bytes b (get_or items at d) s) (o ∙ ap (kind_at (get_or items at d)) opens) ∙ taken_one bytes (get_or items at d) (drop (at + 1) items) s

  begins : (s : Loading) → loaded bytes (drop at items) s ≡ bound (take_one bytes object (get_or items at d) s) (λ t. loaded bytes (drop (at + 1) items) t)
  unfolding loaded
  begins s = ap (λ is. loaded bytes is s) here ∙ ap (λ r. bound r (λ t. loaded bytes (drop (at + 1) items) t)) (sym (taken s))

  pub goes_on : (s t : Loading) → take_one bytes object (get_or items at d) s ≡ Ok t → loaded bytes (drop at items) s ≡ loaded bytes (drop (at + 1) items) t
  goes_on s t e = begins s ∙ ap (λ r. bound r (λ u. loaded bytes (drop (at + 1) items) u)) e

  pub stops : (s : Loading) (r : BuildRefusal) → take_one bytes object (get_or items at d) s ≡ Err r → loaded bytes (drop at items) s ≡ Err r
  stops s r e = begins s ∙ ap (λ x. bound x (λ u. loaded bytes (drop (at + 1) items) u)) e

  pub grows : (n : ℕ) (s t : Loading) → IsWithin n s → take_one bytes object (get_or items at d) s ≡ Ok t → IsWithin (n + 1) t
  grows n s t w e = within_more n bytes (get_or items at d) (drop (at + 1) items) s t w (sym (taken s) ∙ e)

  pub left : (behind : List Bool) → behind ≡ kinds_behind (get_or items at d) kinds → behind ≡ openings (drop (at + 1) items)
  left behind e = e ∙ ap (kinds_behind (get_or items at d)) opens ∙ kinds_left (get_or items at d) (drop (at + 1) items)

pub at_end : (bytes : List ℕ) (items : List Item) (at : ℕ) (s : Loading) → length items ≤ at → loaded bytes (drop at items) s ≡ Ok s
unfolding loaded
at_end bytes items at s h = rw (drop_of_length-le items h) refl
