use Rattle.plain_core.proofs.Serving.{ended_by}
use Rattle.plain_core.proofs.turning.end.Goals as goal

pub returns : goal.returns
returns c = ended_by c.cost_left-cost.result c.end.ensures c.cost_left-cost.ensures c.requires.at
