use Rattle.plain_core.proofs.Serving.{answered}
use Rattle.plain_core.proofs.turning.answer.Goals as goal

pub returns : goal.returns
returns c = answered c.cost_left-cost.result c.args.word c.left-goal.result c.answer_data.ensures c.left-goal.ensures c.cost_left-cost.ensures c.requires.at c.requires.room c.requires.found
