use Rattle.std.proofs.Common.{◌≡◌, ◌≤◌, true}
use Rattle.self_terms.specs.Depths.{depth}
use Rattle.source_model.specs.Testing.{below_pass, node_test}
use Rattle.world_test.proofs.nodes.nodes_test.Given as goal

abbrev pub invariant-loop-k : goal.invariant-loop-k
invariant-loop-k l = record {
  passed : below_pass l.k (node_test l.world.bodies l.n) ≡ true;
  deep : l.over ≡ depth l.body.nodes l.k;
  few : l.over ≤ l.k;
}
