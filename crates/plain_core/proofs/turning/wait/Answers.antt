use Rattle.plain_core.proofs.Serving.{waited}
use Rattle.plain_core.proofs.turning.wait.Goals as goal

pub returns : goal.returns
returns c = waited c.cost_left-cost.result c.wait.ensures c.cost_left-cost.ensures c.requires.at
