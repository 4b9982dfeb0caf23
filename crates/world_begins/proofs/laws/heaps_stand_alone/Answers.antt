use Rattle.world_begins.proofs.Alone.{heap_alone, world_alone}
use Rattle.world_begins.proofs.laws.heaps_stand_alone.Goals as goal

pub returns-clause-heap : goal.returns-clause-heap
returns-clause-heap c = λ maps mem new heap h p things made is same. heap_alone maps mem new heap h p things made is same

pub returns-clause-world : goal.returns-clause-world
returns-clause-world c = λ i mem new has same. world_alone i mem new has same
