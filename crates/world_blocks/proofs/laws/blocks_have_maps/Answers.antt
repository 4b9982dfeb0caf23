use Rattle.world_blocks.proofs.Mapped.{has_block_maps}
use Rattle.world_blocks.proofs.laws.blocks_have_maps.Goals as goal

pub returns : goal.returns
returns c = λ i three. has_block_maps i three
