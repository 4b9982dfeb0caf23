use Rattle.std.proofs.Common.{◌≡◌, ◌++◌, drop, map}
use Rattle.world_heap.specs.Layout.{fields}
use Rattle.world_heap.specs.Kinds.{value_word}
use Rattle.world_heap.proofs.words.put_fields.Given as goal

abbrev pub invariant-loop-at : goal.invariant-loop-at
invariant-loop-at l = l.words.items ++ map (value_word l.world) (fields (drop l.at l.slots)) ≡ l.fn.words.items ++ map (value_word l.world) (fields l.slots)
