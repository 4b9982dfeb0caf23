use Rattle.world_ready.proofs.Rooms.{accepted_room}
use Rattle.world_ready.proofs.laws.units_have_room.Goals as goal

pub returns : goal.returns
returns c = accepted_room
