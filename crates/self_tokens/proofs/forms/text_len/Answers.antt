use Rattle.std.proofs.Common.{arith}
use Rattle.self_tokens.proofs.Strings.{text_len_escaped}
use Rattle.self_tokens.proofs.forms.text_len.Goals as goal

pub loop-index-preserved-then-escaped : goal.loop-index-preserved-then-escaped
loop-index-preserved-then-escaped c =
    let before = rw c.if-escaped.true at c.loop-index.invariant in
    let step = text_len_escaped c.args.rest.now c.loop-index.index c.loop-index-test.true in
    omega arith
