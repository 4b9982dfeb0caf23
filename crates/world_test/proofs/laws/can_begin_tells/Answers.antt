use Rattle.world_test.proofs.Tells.{tells}
use Rattle.world_test.proofs.laws.can_begin_tells.Goals as goal

pub returns : goal.returns
returns c = tells
