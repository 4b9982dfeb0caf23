use Rattle.std.proofs.Common.{◌≡◌, ◌+◌, ◌-◌, ◌*◌, ◌++◌, length}
use Rattle.std.specs.Prelude.{map}
use Rattle.plain_host.specs.Hosted.{host}
use Rattle.shown_frames.specs.Listed.{words_up}
use Rattle.shown_frames.specs.Showing.{value_shown}
use Rattle.plain_show.proofs.showing.put_from.Given as goal

abbrev pub invariant-loop-j : goal.invariant-loop-j
invariant-loop-j l = record { values : l.into ++ map (value_shown (host l.hosting).maps (host l.hosting).machine.memory l.frames) (words_up (host l.hosting).machine.memory (l.at + 4 * l.j) (l.count - l.j)) ≡ map (value_shown (host l.hosting).maps (host l.hosting).machine.memory l.frames) (words_up (host l.hosting).machine.memory l.at l.count); long : length l.into ≡ l.j }
