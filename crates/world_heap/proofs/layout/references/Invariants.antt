use Rattle.std.proofs.Common.{◌≡◌, ◌+◌, ◌++◌, ◌≤◌, drop}
use Rattle.world_heap.specs.Layout.{span_of}
use Rattle.world_heap.specs.Steps.{references_from}
use Rattle.world_heap.proofs.layout.references.Given as goal

abbrev pub invariant-loop-thing : goal.invariant-loop-thing
invariant-loop-thing l = record {
  made : l.references.items ++ references_from l.words (drop l.thing-index l.things) ≡ references_from 0 l.things;
  few : l.words + span_of (drop l.thing-index l.things) ≤ 1048576;
}
