use Rattle.plain_answers.proofs.Fitting.{methods_fit, assignments_fit}
use Rattle.plain_answers.proofs.laws.messages_fit.Goals as goal

pub returns-clause-method : goal.returns-clause-method
returns-clause-method c = methods_fit

pub returns-clause-assignment : goal.returns-clause-assignment
returns-clause-assignment c = assignments_fit
