use Rattle.plain_core.proofs.Serving.{entry_fits, called}
use Rattle.plain_core.proofs.turning.call.Goals as goal

pub call-requires-clause-entry : goal.call-requires-clause-entry
call-requires-clause-entry c = entry_fits _ _ _ _ c.requires.at c.requires.room _ _ c.requires.found _ c.requires.entry

pub returns : goal.returns
returns c = called c.cost_left-cost.result c.args.holder c.args.at c.left-goal.result c.args._body c.call.ensures c.left-goal.ensures c.cost_left-cost.ensures c.requires.at c.requires.room c.requires.found c.requires.entry c.requires.there c.requires.let_through
