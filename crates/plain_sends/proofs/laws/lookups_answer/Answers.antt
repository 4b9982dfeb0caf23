use Rattle.plain_sends.proofs.Founds.{values_answer, holders_answer, parents_answer}
use Rattle.plain_sends.proofs.laws.lookups_answer.Goals as goal

pub returns-clause-receiver : goal.returns-clause-receiver
returns-clause-receiver c = values_answer

pub returns-clause-above : goal.returns-clause-above
returns-clause-above c = holders_answer

pub returns-clause-through : goal.returns-clause-through
returns-clause-through c = parents_answer
