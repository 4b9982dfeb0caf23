use Rattle.source_model.proofs.Lasting.{steps_last}
use Rattle.source_model.proofs.LastingCommands.{runs_last, commands_last}
use Rattle.source_model.proofs.soundness.steps_change_no_lookup.Goals as goal

pub returns-clause-step : goal.returns-clause-step
returns-clause-step c = steps_last

pub returns-clause-run : goal.returns-clause-run
returns-clause-run c = runs_last

pub returns-clause-command : goal.returns-clause-command
returns-clause-command c = commands_last
