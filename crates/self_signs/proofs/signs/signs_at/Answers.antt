use Rattle.std.proofs.Common.{[], arith}
use Rattle.std.proofs.lemmas.List.{append-nil, take_all}
use Rattle.self_signs.proofs.signs.signs_at.Goals as goal

pub returns-clause-signs : goal.returns-clause-signs
returns-clause-signs c =
    let whole = take_all c.loop-token.token-index c.args.tokens.now (omega arith) in
    let alone = append-nil c.loop-token.names in
    rw (alone, whole) at (c.loop-token.invariant.signs [])
