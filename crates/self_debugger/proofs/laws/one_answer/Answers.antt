use Rattle.self_debugger.proofs.OneAnswer.{one, some_answer}
use Rattle.self_debugger.proofs.laws.one_answer.Goals as goal

pub returns-clause-one : goal.returns-clause-one
returns-clause-one c = one

pub returns-clause-some : goal.returns-clause-some
returns-clause-some c = some_answer
