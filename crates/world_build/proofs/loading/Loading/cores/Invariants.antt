use Rattle.std.proofs.Common.{◌≡◌, drop}
use Rattle.world_build.specs.Worlds.{cores}
use Rattle.world_build.proofs.CoreLemmas.{behind}
use Rattle.world_build.proofs.loading.Loading.cores.Given as goal

abbrev pub invariant-loop-name : goal.invariant-loop-name
invariant-loop-name l = behind l.core (cores l.self (drop l.name-index l.names)) ≡ cores l.self l.names
