use Rattle.plain_prims.proofs.Asking.{primitives_ask}
use Rattle.plain_prims.proofs.laws.primitives_ask.Goals as goal

pub returns : goal.returns
returns c = primitives_ask
