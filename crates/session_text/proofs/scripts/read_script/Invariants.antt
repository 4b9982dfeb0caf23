use Rattle.std.proofs.Common.{◌≡◌, ◌≤◌, ◌+◌, ◌-◌, false, drop, length}
use Rattle.session_text.specs.Scripts.{lines, commands_of, script, in_front}
use Rattle.session_text.proofs.scripts.read_script.Given as goal

abbrev pub invariant-loop-at : goal.invariant-loop-at
invariant-loop-at l = record {
  within : l.at ≤ length l.bytes;
  few : l.number ≤ l.at + 1;
  so_far : script l.bytes ≡ in_front l.script (commands_of false l.number (lines (drop l.at l.bytes)));
}

abbrev pub decreases-loop-at : goal.decreases-loop-at
decreases-loop-at l = length l.bytes - l.at
