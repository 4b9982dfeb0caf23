use Rattle.plain_steps.proofs.Ending.{last_return, last_end}
use Rattle.plain_steps.proofs.laws.words_end_activities.Goals as goal

pub returns-clause-answer : goal.returns-clause-answer
returns-clause-answer c = last_return

pub returns-clause-end : goal.returns-clause-end
returns-clause-end c = last_end
