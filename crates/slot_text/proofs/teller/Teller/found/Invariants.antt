use Rattle.std.proofs.Common.{◌≡◌, drop}
use Rattle.self_terms.specs.Bodies.{sought}
use Rattle.world_build.specs.Nodes.{found}
use Rattle.slot_text.specs.Telling.{shown}
use Rattle.slot_text.proofs.teller.Teller.found.Given as goal

abbrev pub invariant-loop-up : goal.invariant-loop-up
invariant-loop-up l = found (sought l.assigning l.name) l.up l.self.bodies (drop l.up (shown l.self).loading.around) ≡ found (sought l.assigning l.name) 0 l.self.bodies (shown l.self).loading.around
