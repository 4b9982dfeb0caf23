use Rattle.plain_core.proofs.Serving.{quiet_as, refusal_served}
use Rattle.plain_core.proofs.turning.refuse.Goals as goal

pub returns : goal.returns
returns c = quiet_as _ _ _ _ _ _ _ _ c.fail.ensures.failed c.fail.ensures.ended (refusal_served _ _ _ _ c.requires.at c.requires.room _ _ c.requires.found _ _ c.requires.entry c.requires.there c.requires.refused)
