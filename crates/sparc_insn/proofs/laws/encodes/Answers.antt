use Rattle.sparc_insn.proofs.RoundTrip.{encodes}
use Rattle.sparc_insn.proofs.laws.encodes.Goals as goal

pub returns : goal.returns
returns c = encodes
