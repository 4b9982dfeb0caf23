use Rattle.sparc_insn.proofs.RoundTrip.{decodes}
use Rattle.sparc_insn.proofs.laws.decodes.Goals as goal

pub returns : goal.returns
returns c = decodes
