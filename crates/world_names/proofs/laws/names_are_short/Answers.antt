use Rattle.world_names.proofs.Short.{accepted_short}
use Rattle.world_names.proofs.laws.names_are_short.Goals as goal

pub returns : goal.returns
returns c = accepted_short
