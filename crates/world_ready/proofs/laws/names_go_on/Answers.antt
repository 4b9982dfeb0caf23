use Rattle.world_ready.proofs.Names.{goes_on}
use Rattle.world_ready.proofs.laws.names_go_on.Goals as goal

pub returns : goal.returns
returns c = goes_on
