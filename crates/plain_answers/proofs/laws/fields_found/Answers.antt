use Rattle.plain_answers.proofs.Founds.{values_read, holders_read, parents_read}
use Rattle.plain_answers.proofs.laws.fields_found.Goals as goal

pub returns-clause-receiver : goal.returns-clause-receiver
returns-clause-receiver c = values_read

pub returns-clause-above : goal.returns-clause-above
returns-clause-above c = holders_read

pub returns-clause-through : goal.returns-clause-through
returns-clause-through c = parents_read
