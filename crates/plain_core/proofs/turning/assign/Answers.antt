use Rattle.std.proofs.Common.{arith}
use Rattle.plain_core.proofs.Serving.{word_small, assigned_there, assigned}
use Rattle.plain_core.proofs.turning.assign.Goals as goal

pub overflow_add-holder : goal.overflow_add-holder
overflow_add-holder c = let b = word_small _ (assigned_there _ _ _ _ _ _ c.requires.at c.requires.room c.requires.found) in omega (arith, b)

pub overflow_mul-place : goal.overflow_mul-place
overflow_mul-place c = let b = word_small _ (assigned_there _ _ _ _ _ _ c.requires.at c.requires.room c.requires.found) in omega (arith, b)

pub overflow_add-holder-2 : goal.overflow_add-holder-2
overflow_add-holder-2 c = let b = word_small _ (assigned_there _ _ _ _ _ _ c.requires.at c.requires.room c.requires.found) in omega (arith, b)

pub assign-requires-clause-there : goal.assign-requires-clause-there
assign-requires-clause-there c = assigned_there _ _ _ _ _ _ c.requires.at c.requires.room c.requires.found

pub returns : goal.returns
returns c = assigned c.cost_left-cost.result c.args.holder c.args.place c.left-goal.result c.assign.ensures c.left-goal.ensures c.cost_left-cost.ensures c.requires.at c.requires.room c.requires.found
