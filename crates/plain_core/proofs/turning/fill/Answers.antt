use Rattle.plain_core.proofs.Serving.{quiet_as, fill_served}
use Rattle.plain_core.proofs.turning.fill.Goals as goal

pub returns : goal.returns
returns c = quiet_as _ _ _ _ _ _ _ _ c.fail.ensures.failed c.fail.ensures.ended (fill_served _ _ _ c.requires.at)
