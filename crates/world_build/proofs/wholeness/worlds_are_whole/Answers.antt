use Rattle.world_build.proofs.Loaded.{all_bytes}
use Rattle.world_build.proofs.Whole.{built_whole}
use Rattle.world_build.proofs.wholeness.worlds_are_whole.Goals as goal

pub returns : goal.returns
returns c = λ names bytes is w small are named made. built_whole names bytes is w (all_bytes bytes small) are named made
