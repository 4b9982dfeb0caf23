use Rattle.plain_answers.proofs.Assigning.{assignments_answer, goals_are_left}
use Rattle.plain_answers.proofs.laws.assignments_answer_sends.Goals as goal

pub returns-clause-answer : goal.returns-clause-answer
returns-clause-answer c = assignments_answer

pub returns-clause-goal : goal.returns-clause-goal
returns-clause-goal c = goals_are_left
