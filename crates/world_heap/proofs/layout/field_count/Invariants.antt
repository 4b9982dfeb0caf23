use Rattle.std.proofs.Common.{◌≡◌, ◌+◌, drop, length}
use Rattle.world_heap.specs.Layout.{fields}
use Rattle.world_heap.proofs.layout.field_count.Given as goal

abbrev pub invariant-loop-at : goal.invariant-loop-at
invariant-loop-at l = l.count + length (fields (drop l.at l.slots)) ≡ length (fields l.slots)
