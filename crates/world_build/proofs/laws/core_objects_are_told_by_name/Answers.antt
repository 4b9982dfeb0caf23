use Rattle.world_build.proofs.Naming.{built_cores}
use Rattle.world_build.proofs.laws.core_objects_are_told_by_name.Goals as goal

pub returns : goal.returns
returns c = built_cores
