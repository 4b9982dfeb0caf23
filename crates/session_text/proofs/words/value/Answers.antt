use Rattle.std.proofs.Common.{arith}
use Rattle.session_text.specs.Words.{value}
use Rattle.session_text.proofs.Numbers.{value_from_over}
use Rattle.session_text.proofs.words.value.Goals as goal

pub returns-then-value-gt1000000000 : goal.returns-then-value-gt1000000000
returns-then-value-gt1000000000 c =
    let h = value_from_over c.args.digits.now c.loop-digit.digit-index c.loop-digit.value (value c.args.digits.now) c.loop-digit-test.true c.loop-digit.invariant.1 in
    omega arith
