use Rattle.std.proofs.Common.{◌≡◌, drop}
use Rattle.world_build.specs.Kinds.{closings, openings}
use Rattle.world_build.proofs.kinds.kinds_of.Given as goal

abbrev pub invariant-loop-at : goal.invariant-loop-at
invariant-loop-at l = (l.closings ≡ closings (drop l.at l.items)) × (l.kinds ≡ openings (drop l.at l.items))
