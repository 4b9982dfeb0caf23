use Rattle.std.proofs.Common.{get_or, arith}
use Rattle.slot_lookup.proofs.Marks.{Among-get}
use Rattle.slot_lookup.proofs.walk.clear.Goals as goal

pub number_of-requires : goal.number_of-requires
number_of-requires c = (c.requires.numbered (get_or c.args.trail.now c.loop-x.x-index 0) (Among-get c.args.trail.now c.loop-x.x-index c.loop-x-test.true)).0

pub bounds-seen-number_of : goal.bounds-seen-number_of
bounds-seen-number_of c =
    let h = (c.requires.numbered (get_or c.args.trail.now c.loop-x.x-index 0) (Among-get c.args.trail.now c.loop-x.x-index c.loop-x-test.true)).1 in
    omega (arith, h)
