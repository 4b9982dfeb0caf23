use Rattle.std.proofs.Common.{◌≡◌, ◌++◌, drop}
use Rattle.world_heap.specs.Heaps.{references_from}
use Rattle.world_heap.proofs.layout.places.Given as goal

abbrev pub invariant-loop-k : goal.invariant-loop-k
invariant-loop-k l = l.objects ++ references_from l.world l.k (drop l.k l.world.things) ≡ references_from l.world 0 l.world.things
