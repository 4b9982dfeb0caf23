use Rattle.std.proofs.Common.{◌-◌, ◌+◌, ◌∙◌, ap}
use Rattle.source_model.specs.Soundness.{around}
use Rattle.world_test.proofs.Around.{around_more}
use Rattle.world_test.proofs.bodies.around.Goals as goal

pub loop-done-preserved : goal.loop-done-preserved
loop-done-preserved c =
    ap (around c.args.world.now.bodies (c.args.up - (c.loop-done.done + 1))) c.outer_of-at.ensures
    ∙ around_more c.args.world.now.bodies c.args.up c.loop-done.done c.loop-done.at c.loop-done-test.true
    ∙ c.loop-done.invariant
