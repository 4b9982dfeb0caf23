use Rattle.std.proofs.Common.{◌≡◌, ◌+◌, ◌++◌, ◌≤◌, drop}
use Rattle.world_heap.specs.Images.{words_from, words}
use Rattle.world_heap.proofs.words.words_of.Given as goal

abbrev pub invariant-loop-thing : goal.invariant-loop-thing
invariant-loop-thing l = record {
  made : l.words.items ++ words_from l.world l.number l.map (drop l.thing-index l.world.things) ≡ words l.world;
  number : l.number ≡ l.thing-index;
  map : l.map ≤ 3 + l.thing-index;
}
