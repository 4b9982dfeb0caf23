use Rattle.plain_evaluates.proofs.Methods.{methods_entered}
use Rattle.plain_evaluates.proofs.laws.methods_are_entered.Goals as goal

pub returns : goal.returns
returns c = methods_entered
