-- A frame has room for the locals and the pending values of its body.
use Rattle.std.specs.Prelude.{◌≡◌, ℕ, zero, suc, ◌+◌, ◌*◌, ◌/◌, ◌≤◌, nat_le, Bool, true, false, if◌then◌else◌, List, [], ◌∷◌, refl}
use Rattle.std.proofs.Common.{arith}
use Rattle.std.proofs.lemmas.Grind.{common_steps}
use Rattle.self_terms.specs.declared.nodes.Node.{Node}
use Rattle.self_terms.specs.declared.bodies.Body.{Body}
use Rattle.self_terms.specs.Depths.{grown, depth, depth_from}
use Rattle.plain_words.specs.Units.{larger, deepest, frame_locals, frame_words}

larger_left : (a b : ℕ) → a ≤ larger a b
larger_left a b = by (nat_le a b) refl
  where
    by : (t : Bool) → nat_le a b ≡ t → a ≤ (if t then b else a)
    by true e = grind (arith, common_steps)
    by false e = omega arith

larger_right : (a b : ℕ) → b ≤ larger a b
larger_right a b = by (nat_le a b) refl
  where
    by : (t : Bool) → nat_le a b ≡ t → b ≤ (if t then b else a)
    by true e = omega arith
    by false e = grind (arith, common_steps)

deepest_from : (k : ℕ) (list : List Node) (n : ℕ) → depth_from k list n ≤ deepest k list
deepest_from k [] n = omega arith
deepest_from k (x ∷ xs) zero = larger_left k (deepest (grown x k) xs)
deepest_from k (x ∷ xs) (suc n) =
    let rest : depth_from (grown x k) xs n ≤ deepest (grown x k) xs = deepest_from (grown x k) xs n in
    let more : deepest (grown x k) xs ≤ larger k (deepest (grown x k) xs) = larger_right k (deepest (grown x k) xs) in
    omega arith

depth_within : (list : List Node) (n : ℕ) → depth list n ≤ deepest 0 list
unfolding depth
depth_within list n = deepest_from 0 list n

even_room : (a d k : ℕ) → k ≤ d → 28 + a + k ≤ 2 * ((29 + a + d) / 2)
even_room a d k le = omega arith

-- before each node there is room for what is pending, and for one word more
pub frames_have_room : (x : Body) (n : ℕ) → 28 + frame_locals x + depth x.nodes n ≤ frame_words x
frames_have_room x n = even_room (frame_locals x) (deepest 0 x.nodes) (depth x.nodes n) (depth_within x.nodes n)
