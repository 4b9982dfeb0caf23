use Rattle.plain_turns.proofs.Ending.{goals_end, answers_end, stores_fill}
use Rattle.plain_turns.proofs.laws.runs_end.Goals as goal

pub returns-clause-goal : goal.returns-clause-goal
returns-clause-goal c = goals_end

pub returns-clause-answer : goal.returns-clause-answer
returns-clause-answer c = answers_end

pub returns-clause-full : goal.returns-clause-full
returns-clause-full c = stores_fill
