use Rattle.world_formed.proofs.Begins.{accepted_values}
use Rattle.world_formed.proofs.laws.accepted_values_stand.Goals as goal

pub returns : goal.returns
returns c = accepted_values
