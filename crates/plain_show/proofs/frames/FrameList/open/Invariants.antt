use Rattle.std.proofs.Common.{◌≡◌, length}
use Rattle.plain_show.proofs.frames.FrameList.open.Given as goal

abbrev pub invariant-loop-frame : goal.invariant-loop-frame
invariant-loop-frame l = length l.frames.items ≡ l._frame
