use Rattle.plain_stretches.proofs.Waiting.{steps_go_on, answers_go_on, polls_wait}
use Rattle.plain_stretches.proofs.laws.polls_come_again.Goals as goal

pub returns-clause-step : goal.returns-clause-step
returns-clause-step c = steps_go_on

pub returns-clause-answer : goal.returns-clause-answer
returns-clause-answer c = answers_go_on

pub returns-clause-wait : goal.returns-clause-wait
returns-clause-wait c = polls_wait
