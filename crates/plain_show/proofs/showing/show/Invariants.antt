use Rattle.std.proofs.Common.{◌≡◌, take, length}
use Rattle.std.specs.Prelude.{map, reverse}
use Rattle.plain_host.specs.Hosted.{host}
use Rattle.shown_frames.specs.Showing.{act_shown}
use Rattle.plain_show.proofs.showing.show.Given as goal

abbrev pub invariant-loop-k : goal.invariant-loop-k
invariant-loop-k l = record { acts : l.into ≡ map (act_shown (host l.hosting).maps (host l.hosting).bodies (host l.hosting).machine.memory l.frames) (take l.k (reverse l.frames)); long : length l.into ≡ l.k }
