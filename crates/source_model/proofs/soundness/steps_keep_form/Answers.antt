use Rattle.source_model.proofs.Forming.{steps_form, runs_form}
use Rattle.source_model.proofs.soundness.steps_keep_form.Goals as goal

pub returns-clause-step : goal.returns-clause-step
returns-clause-step c = steps_form

pub returns-clause-run : goal.returns-clause-run
returns-clause-run c = runs_form
