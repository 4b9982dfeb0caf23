use Rattle.std.proofs.Common.{arith}
use Rattle.self_tokens.specs.Forms.{decimal}
use Rattle.self_tokens.proofs.Decimal.{decimal_from_over}
use Rattle.self_tokens.proofs.forms.magnitude.Goals as goal

pub returns-then-value : goal.returns-then-value
returns-then-value c =
    let h = decimal_from_over c.args.digits.now c.loop-digit.digit-index c.loop-digit.value (decimal c.args.digits.now) c.loop-digit-test.true c.loop-digit.invariant.1 in
    omega arith
