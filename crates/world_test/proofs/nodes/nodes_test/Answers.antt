use Rattle.std.proofs.Common.{◌∙◌, ap, sym, refl, arith, length}
use Rattle.std.specs.Prelude.{nat_lt}
use Rattle.self_terms.specs.Depths.{grown}
use Rattle.source_model.specs.Testing.{below_pass, node_test}
use Rattle.world_test.proofs.Around.{depth_next, depth_none, grown_few}
use Rattle.world_test.proofs.Passing.{below_fails, below_goes, ends}
use Rattle.world_test.proofs.nodes.nodes_test.Goals as goal

pub loop-k-init : goal.loop-k-init
loop-k-init c = record { passed = refl; deep = depth_none c.args.body.now.nodes; few = omega arith }

pub returns-then-not-node_test : goal.returns-then-not-node_test
returns-then-not-node_test c =
    sym
    (ends (nat_lt 0 (length c.args.body.now.nodes)) (below_pass (length c.args.body.now.nodes) (node_test c.args.world.now.bodies c.args.n))
    (below_fails (node_test c.args.world.now.bodies c.args.n) (length c.args.body.now.nodes) c.loop-k.k (omega arith) (sym c.if-not-node_test.ensures)))

pub grown-over-requires : goal.grown-over-requires
grown-over-requires c = omega (arith, c.loop-k.invariant.few, c.loop-k-test.true)

pub loop-k-preserved : goal.loop-k-preserved
loop-k-preserved c = record {
  passed = below_goes (node_test c.args.world.now.bodies c.args.n) c.loop-k.k (sym c.if-not-node_test.ensures) c.loop-k.invariant.passed;
  deep = c.grown-over.ensures ∙ ap (grown c.node_at.result) c.loop-k.invariant.deep ∙ sym (depth_next c.args.body.now.nodes c.loop-k.k c.node_at.result c.node_at.ensures);
  few = omega (arith, c.grown-over.ensures, grown_few c.node_at.result c.loop-k.over, c.loop-k.invariant.few);
}
