use Rattle.plain_words.specs.Putting.{Apart}
use Rattle.plain_words.proofs.Emitted.{EachAt}
use Rattle.plain_words.proofs.emitting.put_code.Given as goal

abbrev pub invariant-loop-j : goal.invariant-loop-j
invariant-loop-j l = record {
  each : EachAt l.memory l.at l.j l.code;
  apart : Apart l.fn.memory l.memory l.at l.j;
}
