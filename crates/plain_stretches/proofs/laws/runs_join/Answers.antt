use Rattle.plain_stretches.proofs.Joining.{runs_join, step_joins}
use Rattle.plain_stretches.proofs.laws.runs_join.Goals as goal

pub returns-clause-run : goal.returns-clause-run
returns-clause-run c = runs_join

pub returns-clause-step : goal.returns-clause-step
returns-clause-step c = step_joins
