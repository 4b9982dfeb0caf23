use Rattle.std.proofs.Common.{◌≡◌, drop}
use Rattle.self_terms.specs.Bodies.{sought}
use Rattle.world_build.specs.Nodes.{found}
use Rattle.world_build.proofs.loading.Loading.found.Given as goal

abbrev pub invariant-loop-up : goal.invariant-loop-up
invariant-loop-up l = found (sought l.assigning l.name) l.up l.self.bodies (drop l.up l.self.around) ≡ found (sought l.assigning l.name) 0 l.self.bodies l.self.around
