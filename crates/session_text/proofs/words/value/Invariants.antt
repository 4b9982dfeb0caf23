use Rattle.std.proofs.Common.{◌≡◌, ◌≤◌, drop}
use Rattle.session_text.specs.Words.{value, value_from}
use Rattle.session_text.proofs.words.value.Given as goal

abbrev pub invariant-loop-digit : goal.invariant-loop-digit
invariant-loop-digit l = (l.value ≤ 1000000000) × (value_from l.value (drop l.digit-index l.digits) ≡ value l.fn.digits)
