use Rattle.std.specs.Prelude.{refl}
use Rattle.world_state.proofs.Lobby.{lobby_met}
use Rattle.world_state.proofs.begins_with_the_world.Goals as goal

pub returns-clause-lookup : goal.returns-clause-lookup
returns-clause-lookup c w names k name o = refl

pub returns-clause-lobby : goal.returns-clause-lobby
returns-clause-lobby c = lobby_met
