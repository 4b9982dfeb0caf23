use Rattle.world_build.proofs.Noting.{built_numbered}
use Rattle.world_build.proofs.laws.worlds_are_numbered_by_first_tokens.Goals as goal

pub returns : goal.returns
returns c = built_numbered
