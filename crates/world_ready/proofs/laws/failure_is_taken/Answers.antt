use Rattle.world_ready.proofs.Names.{taken}
use Rattle.world_ready.proofs.laws.failure_is_taken.Goals as goal

pub returns : goal.returns
returns c = taken
