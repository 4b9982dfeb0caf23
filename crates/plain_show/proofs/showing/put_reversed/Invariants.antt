use Rattle.std.proofs.Common.{◌≡◌, take, length}
use Rattle.std.specs.Prelude.{map, reverse}
use Rattle.plain_host.specs.Hosted.{host}
use Rattle.shown_frames.specs.Showing.{value_shown}
use Rattle.plain_show.proofs.showing.put_reversed.Given as goal

abbrev pub invariant-loop-j : goal.invariant-loop-j
invariant-loop-j l = record { values : l.into ≡ map (value_shown (host l.hosting).maps (host l.hosting).machine.memory l.frames) (take l.j (reverse l.words)); long : length l.into ≡ l.j }
