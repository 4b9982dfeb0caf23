use Rattle.std.proofs.Common.{◌≤◌, ◌-◌, take, length}
use Rattle.io_ports.specs.Causes.{Takes}
use Rattle.io_ports.proofs.reading.write_all.Given as goal

abbrev pub invariant-loop-at : goal.invariant-loop-at
invariant-loop-at g l =
    let taken = g.K.Sink.taken in
    let faults = g.K.Sink.faults in
    record {
      so_far : Takes (taken l.fn.out) (taken l.out) (take l.at l.bytes);
      later : faults l.fn.out ≤ faults l.out;
      within : l.at ≤ length l.bytes;
    }

abbrev pub decreases-loop-at : goal.decreases-loop-at
decreases-loop-at g l = length l.bytes - l.at
