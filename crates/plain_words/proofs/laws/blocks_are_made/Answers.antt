use Rattle.plain_words.proofs.Making.{block_makes, block_full}
use Rattle.plain_words.proofs.laws.blocks_are_made.Goals as goal

pub returns-clause-made : goal.returns-clause-made
returns-clause-made c = block_makes

pub returns-clause-full : goal.returns-clause-full
returns-clause-full c = block_full
