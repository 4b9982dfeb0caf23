use Rattle.std.proofs.Common.{◌≡◌, take, length}
use Rattle.std.specs.Prelude.{map}
use Rattle.plain_host.specs.Hosted.{host}
use Rattle.shown_frames.specs.Showing.{value_shown}
use Rattle.plain_show.proofs.showing.put_words.Given as goal

abbrev pub invariant-loop-word : goal.invariant-loop-word
invariant-loop-word l = record { values : l.into ≡ map (value_shown (host l.hosting).maps (host l.hosting).machine.memory l.frames) (take l.word-index l.words); long : length l.into ≡ l.word-index }
