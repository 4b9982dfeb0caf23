use Rattle.std.proofs.Common.{◌≡◌, ◌-◌}
use Rattle.std.specs.Prelude.{Some}
use Rattle.source_model.specs.Soundness.{around}
use Rattle.world_test.proofs.bodies.around.Given as goal

-- the rest of the way leads to the same body
abbrev pub invariant-loop-done : goal.invariant-loop-done
invariant-loop-done l = around l.world.bodies (l.up - l.done) l.at ≡ around l.world.bodies l.up (Some l.n)
