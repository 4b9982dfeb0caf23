use Rattle.std.proofs.Common.{◌≡◌, ◌≤◌, ◌^◌, drop}
use Rattle.self_tokens.specs.Forms.{decimal, decimal_from}
use Rattle.self_tokens.proofs.forms.magnitude.Given as goal

abbrev pub invariant-loop-digit : goal.invariant-loop-digit
invariant-loop-digit l = (l.value ≤ 2 ^ 29) × (decimal_from l.value (drop l.digit-index l.digits) ≡ decimal l.fn.digits)
