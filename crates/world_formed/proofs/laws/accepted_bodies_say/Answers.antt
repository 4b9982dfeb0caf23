use Rattle.world_formed.proofs.Begins.{accepted_says}
use Rattle.world_formed.proofs.laws.accepted_bodies_say.Goals as goal

pub returns : goal.returns
returns c = accepted_says
