use Rattle.plain_opens.proofs.Fixed.{names_sum}
use Rattle.plain_opens.proofs.laws.fixed_names_sum.Goals as goal

pub returns : goal.returns
returns c = names_sum
