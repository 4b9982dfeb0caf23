use Rattle.plain_answers.proofs.Founds.{values_find, holders_find, parents_find}
use Rattle.plain_answers.proofs.laws.methods_found.Goals as goal

pub returns-clause-receiver : goal.returns-clause-receiver
returns-clause-receiver c = values_find

pub returns-clause-above : goal.returns-clause-above
returns-clause-above c = holders_find

pub returns-clause-through : goal.returns-clause-through
returns-clause-through c = parents_find
