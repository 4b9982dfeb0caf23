use Rattle.world_begins.proofs.Firsts.{begins_core}
use Rattle.world_begins.proofs.laws.worlds_begin.Goals as goal

pub returns : goal.returns
returns c = λ i mem r names advisors stands has fresh. begins_core i mem r names advisors stands has fresh
