use Rattle.std.proofs.Common.{◌∙◌, sym}
use Rattle.source_model.specs.Testing.{says_test}
use Rattle.world_test.proofs.Passing.{each_fails, each_goes}
use Rattle.world_test.proofs.said.nodes_said.Goals as goal

pub returns-then-not-says_test : goal.returns-then-not-says_test
returns-then-not-says_test c =
    sym (each_fails (says_test c.args.names.now c.args.things) c.args.nodes.now c.loop-k.k c.node_at.result c.node_at.ensures (sym c.if-not-says_test.ensures)) ∙ c.loop-k.invariant

pub loop-k-preserved : goal.loop-k-preserved
loop-k-preserved c =
    each_goes (says_test c.args.names.now c.args.things) c.args.nodes.now c.loop-k.k c.node_at.result c.node_at.ensures (sym c.if-not-says_test.ensures) ∙ c.loop-k.invariant
