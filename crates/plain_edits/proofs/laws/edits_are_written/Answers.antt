use Rattle.plain_edits.proofs.Strings.{edits_are_written}
use Rattle.plain_edits.proofs.laws.edits_are_written.Goals as goal

pub returns : goal.returns
returns c = edits_are_written
