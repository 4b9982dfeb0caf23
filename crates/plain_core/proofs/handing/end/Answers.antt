use Rattle.plain_core.proofs.Handlers.{failure_ends}
use Rattle.plain_core.proofs.Serving.{quiet_as}
use Rattle.plain_core.proofs.handing.end.Goals as goal

pub returns : goal.returns
returns c = quiet_as _ _ _ _ _ _ _ _ c.fail.ensures.failed c.fail.ensures.ended (failure_ends _ _ _ c.requires.at _ _ _ c.requires.node _ c.requires.fails)
