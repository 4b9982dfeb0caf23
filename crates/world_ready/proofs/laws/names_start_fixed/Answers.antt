use Rattle.world_ready.proofs.Names.{accepted_start}
use Rattle.world_ready.proofs.laws.names_start_fixed.Goals as goal

pub returns : goal.returns
returns c = λ bytes w a limited. accepted_start bytes w a
