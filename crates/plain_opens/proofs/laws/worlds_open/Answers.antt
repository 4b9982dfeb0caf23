use Rattle.plain_opens.proofs.Resting.{opened_rests}
use Rattle.plain_opens.proofs.laws.worlds_open.Goals as goal

pub returns : goal.returns
returns c = λ i memory advisors stands modest whole loaded within can formed sums. opened_rests i memory advisors stands modest whole loaded within can formed sums
