use Rattle.source_model.proofs.Testing.{fits_by_test}
use Rattle.source_model.proofs.Editing.{commands_form, scripts_form}
use Rattle.source_model.proofs.soundness.commands_keep_form.Goals as goal

pub returns-clause-one : goal.returns-clause-one
returns-clause-one c = commands_form

pub returns-clause-script : goal.returns-clause-script
returns-clause-script c = scripts_form

pub returns-clause-test : goal.returns-clause-test
returns-clause-test c = fits_by_test
