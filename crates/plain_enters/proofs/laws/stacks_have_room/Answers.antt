use Rattle.plain_enters.proofs.Rooms.{has_room}
use Rattle.plain_enters.proofs.laws.stacks_have_room.Goals as goal

pub returns : goal.returns
returns c = has_room
