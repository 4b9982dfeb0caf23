use Rattle.std.proofs.Common.{◌≡◌, drop, length}
use Rattle.source_model.specs.Testing.{each_passes, thing_test}
use Rattle.world_test.proofs.worlds.things_test.Given as goal

-- what is left passes where all do
abbrev pub invariant-loop-thing : goal.invariant-loop-thing
invariant-loop-thing l =
    each_passes (thing_test l.names l.world.bodies (length l.world.things)) (drop l.thing-index l.world.things)
    ≡ each_passes (thing_test l.names l.world.bodies (length l.world.things)) l.world.things
