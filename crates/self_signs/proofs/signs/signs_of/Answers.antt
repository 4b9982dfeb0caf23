use Rattle.std.proofs.Common.{length, ap, ◌∙◌, arith, length-append}
use Rattle.self_tokens.specs.declared.symbols.OutOfMemory.{OutOfMemory}
use Rattle.self_signs.proofs.SignLaws.{tokens_few, list_closed}
use Rattle.self_signs.proofs.signs.signs_of.Goals as goal

pub signs_at-requires-clause-room : goal.signs_at-requires-clause-room
signs_at-requires-clause-room c =
    let few = tokens_few c.args.bytes.now in
    let same = ap length (c.as_slice.ensures ∙ c.in_ok-tokens.ensures.exact) in
    omega arith

pub returns-clause-closed : goal.returns-clause-closed
returns-clause-closed c =
    list_closed OutOfMemory c.signs_at.new.names c.args.bytes.now c.as_slice.result.now c.signs_at.result (c.as_slice.ensures ∙ c.in_ok-tokens.ensures.exact)
    c.signs_at.ensures.signs

pub returns-clause-few : goal.returns-clause-few
returns-clause-few c =
    let few = tokens_few c.args.bytes.now in
    let same = ap length (c.as_slice.ensures ∙ c.in_ok-tokens.ensures.exact) in
    let grown = ap length c.signs_at.ensures.grows.1 in
    let both = length-append c.args.names.now c.signs_at.ensures.grows.0 in
    let more = c.signs_at.ensures.grows.2 in
    omega arith
