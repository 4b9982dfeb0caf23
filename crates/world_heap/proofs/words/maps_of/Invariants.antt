use Rattle.std.proofs.Common.{◌≡◌, ◌+◌, ◌++◌, ◌≤◌, drop, length}
use Rattle.world_heap.specs.Images.{own_maps, maps}
use Rattle.world_heap.proofs.words.maps_of.Given as goal

abbrev pub invariant-loop-thing : goal.invariant-loop-thing
invariant-loop-thing l = record {
  made : l.maps ++ own_maps l.world (drop l.thing-index l.world.things) ≡ maps l.world;
  few : length l.maps ≤ 3 + l.thing-index;
}
