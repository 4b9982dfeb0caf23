use Rattle.self_tokens.specs.Tokens.{IsPlace}
use Rattle.self_tokens.proofs.scanning.advance.Given as goal

abbrev pub invariant-loop-at : goal.invariant-loop-at
invariant-loop-at l = IsPlace l.bytes l.at l.line l.column
