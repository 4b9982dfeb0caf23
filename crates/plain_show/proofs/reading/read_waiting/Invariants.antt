use Rattle.std.proofs.Common.{◌≡◌, ◌-◌, ◌++◌, [], length}
use Rattle.sparc_store.specs.Windows.{saved_at}
use Rattle.frame_walk.specs.Walk.{activations}
use Rattle.plain_runs.specs.Host.{descriptor_at}
use Rattle.plain_host.specs.Hosted.{host}
use Rattle.plain_show.specs.Reading.{CanRead}
use Rattle.plain_show.proofs.reading.read_waiting.Given as goal

abbrev pub invariant-loop-frame : goal.invariant-loop-frame
invariant-loop-frame l =
    let h = host l.hosting in
    let memory = h.machine.memory in
    record {
      frames : l.into ++ activations (descriptor_at h) memory (l.count - l._frame) l.at (saved_at memory l.at) l.next [] ≡ activations (descriptor_at h) memory l.count l.sp (saved_at memory l.sp) l.pc [];
      long : length l.into ≡ l._frame;
      can : CanRead h l.at l.next (l.count - l._frame);
    }
