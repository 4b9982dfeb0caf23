use Rattle.std.proofs.Common.{◌≡◌, ◌-◌, ◌++◌, vec_len, vec_capacity}
use Rattle.plain_host.specs.Hosted.{host}
use Rattle.shown_frames.specs.Listed.{words_down}
use Rattle.plain_show.proofs.frames.put_down.Given as goal

abbrev pub invariant-loop-j : goal.invariant-loop-j
invariant-loop-j l = record {
  words : l.into.items ++ words_down (host l.hosting).machine.memory l.at (l.count - l.j) ≡ words_down (host l.hosting).machine.memory l.at l.count;
  long : vec_len l.into ≡ l.j;
  capacity : vec_capacity l.into ≡ vec_capacity l.fn.into;
}
