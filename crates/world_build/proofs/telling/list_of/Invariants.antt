use Rattle.std.proofs.Common.{◌≡◌, ◌++◌, map, drop}
use Rattle.world_build.specs.Telling.{slot_from}
use Rattle.world_build.proofs.telling.list_of.Given as goal

abbrev pub invariant-loop-at : goal.invariant-loop-at
invariant-loop-at l = l.list.items ++ map (slot_from l.core) (drop l.at l.slots) ≡ map (slot_from l.core) l.slots
