use Rattle.std.proofs.Common.{◌≡◌, drop, length}
use Rattle.std.specs.Prelude.{None}
use Rattle.source_model.specs.Testing.{slots_test}
use Rattle.world_test.proofs.slots.slots_test.Given as goal

-- what is left passes where all do
abbrev pub invariant-loop-at : goal.invariant-loop-at
invariant-loop-at l = slots_test l.names l.world.bodies (length l.world.things) l.front (drop l.at l.slots) ≡ slots_test l.names l.world.bodies (length l.world.things) None l.slots
