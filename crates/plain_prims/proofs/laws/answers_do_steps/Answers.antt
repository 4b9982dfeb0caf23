use Rattle.plain_prims.proofs.Performing.{answers_perform, goal_is_left, silent_step}
use Rattle.plain_prims.proofs.laws.answers_do_steps.Goals as goal

pub returns-clause-answer : goal.returns-clause-answer
returns-clause-answer c = answers_perform

pub returns-clause-goal : goal.returns-clause-goal
returns-clause-goal c = goal_is_left

pub returns-clause-silent : goal.returns-clause-silent
returns-clause-silent c = silent_step
