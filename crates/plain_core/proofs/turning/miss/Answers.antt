use Rattle.plain_core.proofs.Serving.{quiet_as, miss_served}
use Rattle.plain_core.proofs.turning.miss.Goals as goal

pub returns : goal.returns
returns c = quiet_as _ _ _ _ _ _ _ _ c.fail.ensures.failed c.fail.ensures.ended (miss_served _ _ _ _ c.requires.at c.requires.room _ c.requires.found)
