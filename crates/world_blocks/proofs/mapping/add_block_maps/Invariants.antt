use Rattle.world_blocks.proofs.Adding.{AreAdded}
use Rattle.world_blocks.proofs.mapping.add_block_maps.Given as goal

abbrev pub invariant-loop-k : goal.invariant-loop-k
invariant-loop-k l = AreAdded l.world.names l.traits l.world.bodies l.initial.maps l.maps l.numbers l.k
