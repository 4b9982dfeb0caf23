use Rattle.plain_core.proofs.Serving.{quiet_as}
use Rattle.plain_core.proofs.Performing.{full_served}
use Rattle.plain_core.proofs.turning.fail_costly.Goals as goal

pub returns : goal.returns
returns c = quiet_as _ _ _ _ _ _ _ _ c.fail.ensures.failed c.fail.ensures.ended (full_served _ _ _ c.requires.at _ _ _ _ _ c.requires.known _ c.requires.costs c.requires.full)
