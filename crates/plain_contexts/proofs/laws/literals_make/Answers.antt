use Rattle.plain_contexts.proofs.Literals.{literals_make}
use Rattle.plain_contexts.proofs.laws.literals_make.Goals as goal

pub returns : goal.returns
returns c = literals_make
