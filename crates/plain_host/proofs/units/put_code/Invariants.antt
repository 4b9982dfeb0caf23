use Rattle.std.proofs.Common.{◌≡◌}
use Rattle.sparc_machine.specs.Held.{state}
use Rattle.plain_words.specs.Putting.{Apart}
use Rattle.plain_words.proofs.Emitted.{EachAt}
use Rattle.plain_host.proofs.units.put_code.Given as goal

abbrev pub invariant-loop-j : goal.invariant-loop-j
invariant-loop-j l = record {
  machine : state l.machine ≡ record (state l.fn.machine) { memory = (state l.machine).memory };
  each : EachAt (state l.machine).memory l.at l.j l.code;
  apart : Apart (state l.fn.machine).memory (state l.machine).memory l.at l.j;
}
