use Rattle.std.proofs.Common.{◌≡◌, ◌++◌, arith, ap, ◌∙◌, length}
use Rattle.plain_words.specs.Code.{poll}
use Rattle.plain_words.specs.Units.{node_code, node_points}
use Rattle.plain_words.proofs.Growing.{counted}
use Rattle.plain_words.proofs.Long.{node_long}
use Rattle.plain_words.proofs.translator.add_node.Goals as goal

pub overflow_cast-result : goal.overflow_cast-result
overflow_cast-result c =
    let P = poll ++ node_code c.args.references.now c.args.owns c.args.locals c.args.at c.args.node c.args.k in
    let words : c.saturating_sub-words.result ≡ length P = counted c.args.unit.now.code.items c.put_node.new.code.items P c.as_slice-before.result.now c.as_slice.result.now c.saturating_sub-words.result c.as_slice-before.ensures.value c.in_ok-put_node.ensures c.as_slice.ensures.value c.saturating_sub-words.ensures in
    omega (arith, node_long 64 c.args.references.now c.args.owns c.args.locals c.args.at c.args.node c.args.k (omega arith) c.requires.short)

pub returns-clause-few : goal.returns-clause-few
returns-clause-few c =
    let P = poll ++ node_code c.args.references.now c.args.owns c.args.locals c.args.at c.args.node c.args.k in
    let words : c.saturating_sub-words.result ≡ length P = counted c.args.unit.now.code.items c.put_node.new.code.items P c.as_slice-before.result.now c.as_slice.result.now c.saturating_sub-words.result c.as_slice-before.ensures.value c.in_ok-put_node.ensures c.as_slice.ensures.value c.saturating_sub-words.ensures in
    omega (arith, node_long 64 c.args.references.now c.args.owns c.args.locals c.args.at c.args.node c.args.k (omega arith) c.requires.short)

pub returns-clause-points : goal.returns-clause-points
returns-clause-points c =
    let P = poll ++ node_code c.args.references.now c.args.owns c.args.locals c.args.at c.args.node c.args.k in
    let words : c.saturating_sub-words.result ≡ length P = counted c.args.unit.now.code.items c.put_node.new.code.items P c.as_slice-before.result.now c.as_slice.result.now c.saturating_sub-words.result c.as_slice-before.ensures.value c.in_ok-put_node.ensures c.as_slice.ensures.value c.saturating_sub-words.ensures in
    c.in_ok-put_node_points.ensures ∙ ap (λ w. c.args.unit.now.points.items ++ node_points c.args.number c.args.n c.args.node c.args.k w) words
