use Rattle.plain_opens.proofs.Counting.{IsCounted}
use Rattle.plain_opens.proofs.rooms.units_have_room.Given as goal

abbrev pub invariant-loop-k : goal.invariant-loop-k
invariant-loop-k l = IsCounted l.world.bodies l.k l.left
