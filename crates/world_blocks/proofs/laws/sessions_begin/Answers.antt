use Rattle.world_blocks.proofs.Known.{session_begins}
use Rattle.world_blocks.proofs.laws.sessions_begin.Goals as goal

pub returns : goal.returns
returns c = λ i mem r advisors stands whole has fresh. session_begins i mem r advisors stands whole has fresh
