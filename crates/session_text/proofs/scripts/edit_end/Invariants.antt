use Rattle.std.proofs.Common.{◌≡◌, ◌≤◌, ◌+◌, ◌-◌, ℕ, true, drop, take, length}
use Rattle.session_text.specs.Scripts.{lines, edit_text, commands_of}
use Rattle.session_text.proofs.LineSteps.{onto}
use Rattle.session_text.proofs.scripts.edit_end.Given as goal

abbrev pub invariant-loop-at : goal.invariant-loop-at
invariant-loop-at l = record {
  within : l.at ≤ length l.rest;
  few : l.passed ≤ l.at;
  text : edit_text (lines l.rest) ≡ onto (take l.at l.rest) (edit_text (lines (drop l.at l.rest)));
  skips : (n : ℕ) → commands_of true n (lines l.rest) ≡ commands_of true (n + l.passed) (lines (drop l.at l.rest));
}

abbrev pub decreases-loop-at : goal.decreases-loop-at
decreases-loop-at l = length l.rest - l.at
