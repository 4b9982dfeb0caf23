use Rattle.plain_edits.proofs.Beginning.{sessions_know_blocks}
use Rattle.plain_edits.proofs.laws.sessions_know_blocks.Goals as goal

pub returns : goal.returns
returns c = sessions_know_blocks
