use Rattle.std.proofs.Common.{◌≤◌, ◌-◌, length}
use Rattle.plain_host.specs.Hosted.{host}
use Rattle.plain_session.proofs.Stacking.{Took}
use Rattle.plain_session.proofs.stacks.put_frames.Given as goal

abbrev pub invariant-loop-at : goal.invariant-loop-at
invariant-loop-at g l =
    let taken = g.K.Sink.taken in
    let faults = g.K.Sink.faults in
    record {
      took : Took l.fn.language.core l.fn.language.names (host l.fn.hosting).bodies l.fn.shown (length l.fn.shown - l.at) (taken l.fn.out) (taken l.out);
      later : faults l.fn.out ≤ faults l.out;
    }
