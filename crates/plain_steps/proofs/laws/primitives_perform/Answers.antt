use Rattle.plain_steps.proofs.Summing.{primitives_perform}
use Rattle.plain_steps.proofs.laws.primitives_perform.Goals as goal

pub returns : goal.returns
returns c = primitives_perform
