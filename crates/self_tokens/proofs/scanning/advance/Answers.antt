use Rattle.std.proofs.Common.{arith}
use Rattle.self_tokens.proofs.PlaceSteps.{place_small}
use Rattle.self_tokens.proofs.scanning.advance.Goals as goal

pub overflow_add-column : goal.overflow_add-column
overflow_add-column c =
    let small = place_small c.args.bytes.now c.loop-at.at c.loop-at.line c.loop-at.column (omega arith) c.loop-at.invariant in
    omega arith
