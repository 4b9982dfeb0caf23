use Rattle.std.proofs.Common.{◌∙◌}
use Rattle.plain_host.specs.Hosted.{host}
use Rattle.plain_core.proofs.Births.{owns_as, context_fits, cost_fits, born_with, born_without}
use Rattle.plain_core.proofs.spawning.start.Goals as goal

pub begin_with_context-requires-clause-heap : goal.begin_with_context-requires-clause-heap
begin_with_context-requires-clause-heap c =
    let h = host c.args.hosting.now in
    context_fits h c.args.b (c.requires.room (owns_as h c.args.b c.owns_context.result c.body.result.now c.owns_context.ensures c.body.ensures ∙ c.if-owns_context.true))

pub begin_with_context-requires-clause-cost : goal.begin_with_context-requires-clause-cost
begin_with_context-requires-clause-cost c =
    let h = host c.args.hosting.now in
    cost_fits h c.args.b (c.requires.room (owns_as h c.args.b c.owns_context.result c.body.result.now c.owns_context.ensures c.body.ensures ∙ c.if-owns_context.true))

pub returns-then-owns_context : goal.returns-then-owns_context
returns-then-owns_context c =
    let h = host c.args.hosting.now in
    c.begin_with_context.ensures ∙ born_with h c.args.b c.args.at c.args.lobby c.args.holder (owns_as h c.args.b c.owns_context.result c.body.result.now c.owns_context.ensures c.body.ensures ∙ c.if-owns_context.true)

pub returns : goal.returns
returns c =
    let h = host c.args.hosting.now in
    c.begin.ensures ∙ born_without h c.args.b c.args.at c.args.lobby c.args.holder (owns_as h c.args.b c.owns_context.result c.body.result.now c.owns_context.ensures c.body.ensures ∙ c.if-owns_context.false)
