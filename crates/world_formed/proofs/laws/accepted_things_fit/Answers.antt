use Rattle.world_formed.proofs.Begins.{accepted_things}
use Rattle.world_formed.proofs.laws.accepted_things_fit.Goals as goal

pub returns : goal.returns
returns c = accepted_things
