use Rattle.plain_answers.proofs.Founds.{values_assign, holders_assign, parents_assign}
use Rattle.plain_answers.proofs.Storing.{assignments_have_words}
use Rattle.plain_answers.proofs.laws.assignments_found.Goals as goal

pub returns-clause-receiver : goal.returns-clause-receiver
returns-clause-receiver c = values_assign

pub returns-clause-above : goal.returns-clause-above
returns-clause-above c = holders_assign

pub returns-clause-through : goal.returns-clause-through
returns-clause-through c = parents_assign

pub returns-clause-word : goal.returns-clause-word
returns-clause-word c = assignments_have_words
