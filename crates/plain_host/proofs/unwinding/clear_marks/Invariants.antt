use Rattle.std.proofs.Common.{◌≡◌}
use Rattle.sparc_machine.specs.Held.{state}
use Rattle.plain_unwinds.specs.Frames.{contexts_at, with_all_cleared}
use Rattle.plain_host.proofs.Walking.{Clears}
use Rattle.plain_host.proofs.unwinding.clear_marks.Given as goal

abbrev pub invariant-loop-left : goal.invariant-loop-left
invariant-loop-left l = record {
  machine : state l.machine ≡ record (state l.fn.machine) { memory = (state l.machine).memory };
  clears : Clears (state l.fn.machine).memory (state l.machine).memory l.left l.frame (with_all_cleared (state l.fn.machine).memory (contexts_at (state l.fn.machine).memory l.count l.at));
}

abbrev pub decreases-loop-left : goal.decreases-loop-left
decreases-loop-left l = l.left
