use Rattle.std.proofs.Common.{◌≡◌, ◌≤◌, ◌+◌, ◌*◌, ◌^◌, take}
use Rattle.self_debugger.specs.Numbers.{number}
use Rattle.self_debugger.proofs.numbers.number.Given as goal

abbrev pub invariant-loop-digit : goal.invariant-loop-digit
invariant-loop-digit l = record {
  so_far : l.value ≡ number (take l.digit-index l.digits);
  small : l.value + 23 ≤ 23 * 10 ^ l.digit-index;
}
