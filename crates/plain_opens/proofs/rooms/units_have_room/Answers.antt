use Rattle.std.proofs.Common.{◌≡◌, ◌+◌, ◌-◌, ◌∙◌, ap, arith}
use Rattle.std.specs.Prelude.{slice_get}
use Rattle.plain_opens.proofs.Counting.{one_counted, too_many}
use Rattle.plain_opens.proofs.rooms.units_have_room.Goals as goal

pub returns-in-None : goal.returns-in-None
returns-in-None c =
    let w = c.args.world.now in
    let same : c.loop-k.k ≡ c.loop-k.k + 1 - 1 = omega arith in
    let there = ap (slice_get w.bodies) same ∙ c.body-body.ensures in
    too_many w.bodies c.loop-k.k c.loop-k.left c.body-body.result.now there c.in-None.ensures c.loop-k.invariant

pub loop-k-preserved : goal.loop-k-preserved
loop-k-preserved c =
    let w = c.args.world.now in
    let same : c.loop-k.k ≡ c.loop-k.k + 1 - 1 = omega arith in
    let there = ap (slice_get w.bodies) same ∙ c.body-body.ensures in
    one_counted w.bodies c.loop-k.k c.loop-k.left c.in-Some.rest c.body-body.result.now there c.in-Some.ensures c.loop-k.invariant
