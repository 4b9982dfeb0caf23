use Rattle.std.proofs.Common.{sym, ◌∙◌}
use Rattle.self_reader.proofs.SettlingLemmas.{nodes_more}
use Rattle.self_reader.proofs.settling.too_many_nodes.Goals as goal

pub loop-m-preserved : goal.loop-m-preserved
loop-m-preserved c =
    sym (nodes_more c.args.limits c.loop-m.of_body c.loop-m.of_text c.loop-m.m-index c.args.made.now c.loop-m-test.true c.if-of_body-limits.false c.if-of_text-limits.false)
    ∙ c.loop-m.invariant
