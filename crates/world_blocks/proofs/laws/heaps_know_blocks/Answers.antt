use Rattle.world_blocks.proofs.Known.{heap_knows}
use Rattle.world_blocks.proofs.laws.heaps_know_blocks.Goals as goal

pub returns : goal.returns
returns c = λ i mem whole has. heap_knows i mem whole has
