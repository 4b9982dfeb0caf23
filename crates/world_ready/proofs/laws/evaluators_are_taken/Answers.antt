use Rattle.world_ready.proofs.Names.{evaluators}
use Rattle.world_ready.proofs.laws.evaluators_are_taken.Goals as goal

pub returns : goal.returns
returns c = evaluators
