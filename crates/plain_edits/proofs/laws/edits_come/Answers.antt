use Rattle.plain_edits.proofs.Coming.{edits_come, edits_form}
use Rattle.plain_edits.proofs.laws.edits_come.Goals as goal

pub returns-clause-come : goal.returns-clause-come
returns-clause-come c = edits_come

pub returns-clause-form : goal.returns-clause-form
returns-clause-form c = edits_form
