use Rattle.sparc_insn.proofs.OneWord.{one_word}
use Rattle.sparc_insn.proofs.laws.one_word.Goals as goal

pub returns : goal.returns
returns c = one_word
