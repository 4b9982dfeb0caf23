use Rattle.plain_steps.proofs.Paying.{steps_pay}
use Rattle.plain_steps.proofs.laws.steps_pay.Goals as goal

pub returns : goal.returns
returns c = steps_pay
