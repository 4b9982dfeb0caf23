use Rattle.plain_show.proofs.Shows.{position_found, position_next}
use Rattle.plain_show.proofs.showing.position_at.Goals as goal

pub returns-then-mark : goal.returns-then-mark
returns-then-mark c =
    position_found c.args.frames.now c.args.mark c.loop-k.k c.len-count.result c.mark.result c.at.result.now c.len-count.ensures.result c.if-mark-eq0.false c.at.ensures c.mark.ensures c.if-mark.true c.loop-k.invariant

pub loop-k-preserved : goal.loop-k-preserved
loop-k-preserved c = position_next c.args.frames.now c.args.mark c.loop-k.k c.mark.result c.at.result.now c.at.ensures c.mark.ensures c.if-mark.false c.loop-k.invariant
