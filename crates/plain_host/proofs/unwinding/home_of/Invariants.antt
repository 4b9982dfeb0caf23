use Rattle.std.proofs.Common.{◌≡◌, ◌+◌, ◌-◌, ◌<◌}
use Rattle.sparc_store.specs.Windows.{saved_at}
use Rattle.sparc_machine.specs.Held.{state}
use Rattle.plain_unwinds.specs.Frames.{ending_at, frame_behind}
use Rattle.plain_host.proofs.unwinding.home_of.Given as goal

abbrev pub invariant-loop-ended : goal.invariant-loop-ended
invariant-loop-ended l = record {
  within : l.ended < l.count;
  place : l.home ≡ frame_behind (state l.machine).memory l.ended l.at;
  rest : l.ended + ending_at (state l.machine).memory (l.count - 1 - l.ended) (saved_at (state l.machine).memory l.home 14) l.context ≡ ending_at (state l.machine).memory (l.count - 1) (saved_at (state l.machine).memory l.at 14) (saved_at (state l.machine).memory l.at 0);
}

abbrev pub decreases-loop-ended : goal.decreases-loop-ended
decreases-loop-ended l = l.count - l.ended
