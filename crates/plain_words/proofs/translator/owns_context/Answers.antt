use Rattle.std.proofs.Common.{◌≡◌, true, false, ◌∙◌, sym}
use Rattle.plain_words.specs.Units.{is_block_literal}
use Rattle.plain_words.proofs.Growing.{any_here, any_past}
use Rattle.plain_words.proofs.translator.owns_context.Goals as goal

pub returns-then-is_block_literal : goal.returns-then-is_block_literal
returns-then-is_block_literal c =
    let found : is_block_literal c.node_at.result ≡ true = cc in
    sym (c.loop-k.invariant ∙ any_here is_block_literal c.args.body.now.nodes c.loop-k.k c.node_at.result c.node_at.ensures found)

pub loop-k-preserved : goal.loop-k-preserved
loop-k-preserved c =
    let none : is_block_literal c.node_at.result ≡ false = cc in
    c.loop-k.invariant ∙ any_past is_block_literal c.args.body.now.nodes c.loop-k.k c.node_at.result c.node_at.ensures none
