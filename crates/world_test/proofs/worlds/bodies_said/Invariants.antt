use Rattle.std.proofs.Common.{◌≡◌, drop, length}
use Rattle.source_model.specs.Testing.{each_passes, said_test}
use Rattle.world_test.proofs.worlds.bodies_said.Given as goal

-- what is left passes where all do
abbrev pub invariant-loop-k : goal.invariant-loop-k
invariant-loop-k l =
    each_passes (said_test l.names (length l.world.things)) (drop l.k l.world.bodies) ≡ each_passes (said_test l.names (length l.world.things)) l.world.bodies
