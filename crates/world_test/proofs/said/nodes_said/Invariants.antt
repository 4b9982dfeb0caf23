use Rattle.std.proofs.Common.{◌≡◌, drop}
use Rattle.source_model.specs.Testing.{each_passes, says_test}
use Rattle.world_test.proofs.said.nodes_said.Given as goal

-- what is left passes where all do
abbrev pub invariant-loop-k : goal.invariant-loop-k
invariant-loop-k l = each_passes (says_test l.names l.things) (drop l.k l.nodes) ≡ each_passes (says_test l.names l.things) l.nodes
