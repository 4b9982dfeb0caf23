use Rattle.std.proofs.Common.{◌≡◌, ◌≤◌, ◌-◌, ◌++◌, length, drop}
use Rattle.self_tokens.specs.Tokens.{IsPlace, tokens, tokens_from}
use Rattle.self_tokens.proofs.scanning.scan_all.Given as goal

abbrev pub invariant-loop-here : goal.invariant-loop-here
invariant-loop-here l = record {
  within : l.here.at ≤ length l.bytes;
  place : IsPlace l.bytes l.here.at l.here.line l.here.column;
  so_far : tokens l.fn.bytes ≡ l.list ++ tokens_from l.bytes 0 l.behind_operand l.here.at (drop l.here.at l.bytes);
}

abbrev pub decreases-loop-here : goal.decreases-loop-here
decreases-loop-here l = length l.bytes - l.here.at
