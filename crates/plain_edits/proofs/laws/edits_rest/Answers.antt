use Rattle.plain_edits.proofs.Resting.{edits_rest}
use Rattle.plain_edits.proofs.laws.edits_rest.Goals as goal

pub returns : goal.returns
returns c = edits_rest
