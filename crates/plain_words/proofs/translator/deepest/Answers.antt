use Rattle.std.proofs.Common.{◌≡◌, ◌+◌, arith, ◌∙◌, ap, sym}
use Rattle.self_terms.specs.Depths.{grown, depth}
use Rattle.plain_words.specs.Units.{deepest}
use Rattle.std.proofs.lemmas.Grind.{common_steps}
use Rattle.plain_words.proofs.Growing.{depth_none, depth_next, deepest_step, larger_zero}
use Rattle.plain_words.proofs.translator.deepest.Goals as goal

pub loop-k-init : goal.loop-k-init
loop-k-init c = record { left = sym (larger_zero (deepest 0 c.args.body.now.nodes)); most = omega arith; deep = depth_none c.args.body.now.nodes; small = omega arith }

pub loop-k-preserved : goal.loop-k-preserved
loop-k-preserved c =
    let nodes = c.args.body.now.nodes in
    let next : c.grown-over.result ≡ depth nodes (c.loop-k.k + 1) = c.grown-over.ensures ∙ ap (grown c.node_at.result) c.loop-k.invariant.deep ∙ sym (depth_next nodes c.loop-k.k c.node_at.result c.node_at.ensures) in
    record {
      left = deepest_step nodes c.loop-k.k c.loop-k.most c.loop-k.over c.grown-over.result c.larger-most.result c.node_at.result c.node_at.ensures c.loop-k.invariant.most c.grown-over.ensures c.larger-most.ensures c.loop-k.invariant.left;
      most = grind (arith, common_steps, c.larger-most.ensures);
      deep = next;
      small = grind (arith, common_steps, c.larger-most.ensures, c.requires.deep (c.loop-k.k + 1), next);
    }
