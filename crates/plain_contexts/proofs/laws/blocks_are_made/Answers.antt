use Rattle.plain_contexts.proofs.Making.{blocks_made}
use Rattle.plain_contexts.proofs.laws.blocks_are_made.Goals as goal

pub returns : goal.returns
returns c = blocks_made
