use Rattle.std.proofs.Common.{arith}
use Rattle.plain_prints.proofs.pieces.Piece.put_line.Goals as goal

pub put_shown-requires : goal.put_shown-requires
put_shown-requires c =
    let few = c.loop-byte.invariant.few in
    let more = c.loop-byte-test.true in
    omega arith
