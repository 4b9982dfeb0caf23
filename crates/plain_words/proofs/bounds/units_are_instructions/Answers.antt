use Rattle.plain_words.proofs.Insns.{unit_insns}
use Rattle.plain_words.proofs.bounds.units_are_instructions.Goals as goal

pub returns : goal.returns
returns c = unit_insns
