use Rattle.world_blocks.proofs.Named.{names_world}
use Rattle.world_blocks.proofs.laws.sessions_have_names.Goals as goal

pub returns : goal.returns
returns c = λ w. names_world w
