use Rattle.std.proofs.Common.{◌≡◌, ◌≤◌, ◌+◌, length, take, true}
use Rattle.world_test.specs.Further.{starts_fixed}
use Rattle.world_test.proofs.further.copied.Given as goal

abbrev pub invariant-loop-at : goal.invariant-loop-at
invariant-loop-at l = record {
  same : starts_fixed l.names ≡ true → l.copy ≡ take l.at l.names;
  few : length l.copy ≤ l.at;
  within : l.at ≤ 2 + length l.names;
}
