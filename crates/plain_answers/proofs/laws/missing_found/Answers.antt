use Rattle.plain_answers.proofs.Founds.{values_miss, holders_miss, parents_miss}
use Rattle.plain_answers.proofs.laws.missing_found.Goals as goal

pub returns-clause-receiver : goal.returns-clause-receiver
returns-clause-receiver c = values_miss

pub returns-clause-above : goal.returns-clause-above
returns-clause-above c = holders_miss

pub returns-clause-through : goal.returns-clause-through
returns-clause-through c = parents_miss
