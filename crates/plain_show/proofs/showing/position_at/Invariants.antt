use Rattle.std.proofs.Common.{◌≡◌, drop}
use Rattle.shown_frames.specs.Showing.{position_of}
use Rattle.plain_show.proofs.showing.position_at.Given as goal

abbrev pub invariant-loop-k : goal.invariant-loop-k
invariant-loop-k l = position_of l.frames l.mark ≡ position_of (drop l.k l.frames) l.mark
