use Rattle.plain_edits.proofs.Heaps.{heaps_follow_edits}
use Rattle.plain_edits.proofs.laws.heaps_follow_edits.Goals as goal

pub returns : goal.returns
returns c = heaps_follow_edits
