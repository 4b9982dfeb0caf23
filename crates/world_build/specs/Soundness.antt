-- The bodies for which code can be made: each node finds the values that it takes, and behind the last one nothing is done.
use Rattle.std.specs.Prelude.{◌≡◌, ℕ, ◌+◌, ◌<◌, ◌≤◌, length, ℤ, true, List, Some, slice_get}
use Rattle.self_terms.specs.declared.nodes.Node.{Node}
use Rattle.self_terms.specs.declared.nodes.Node.TheVariants as nodes
use Rattle.self_terms.specs.declared.nodes.Place.{Place}
use Rattle.self_terms.specs.Depths.{taken, depth, is_inner}
use Rattle.self_terms.specs.Words.{IsSmall}

-- Each node has its place, an integer literal 30 bits, a node the pending values that it takes; at most 64 values are pending
-- and 1,024 nodes there, the last of which ends the body.
pub record IsSound (list : List Node) (places : List Place) : Type 0 where
  pub some : 0 < length list
  pub few : length list ≤ 1024
  pub placed : length places ≡ length list
  pub small : (k : ℕ) (i : ℤ) → slice_get list k ≡ Some (nodes.Int i) → IsSmall i
  pub room : (k : ℕ) → depth list k ≤ 64
  pub there : (k : ℕ) (node : Node) → slice_get list k ≡ Some node → taken node ≤ depth list k
  pub ends : (k : ℕ) (node : Node) → slice_get list k ≡ Some node → is_inner node ≡ true → k + 1 < length list
