use Rattle.std.proofs.Common.{◌≡◌, ◌++◌, ◌+◌, ◌-◌, ◌*◌, ◌/◌, drop, length}
use Rattle.heap_cells.specs.Shapes.{packed_in, packed}
use Rattle.world_heap.proofs.packing.put_bytes.Given as goal

abbrev pub invariant-loop-at : goal.invariant-loop-at
invariant-loop-at l = l.words.items ++ packed_in ((length l.bytes + 3) / 4 - l.at) (drop (4 * l.at) l.bytes) ≡ l.fn.words.items ++ packed l.bytes
