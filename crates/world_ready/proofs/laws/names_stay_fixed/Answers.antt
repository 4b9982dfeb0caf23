use Rattle.world_ready.proofs.Names.{stays_fixed}
use Rattle.world_ready.proofs.laws.names_stay_fixed.Goals as goal

pub returns : goal.returns
returns c = stays_fixed
