use Rattle.std.proofs.Common.{◌≡◌, ◌+◌, ◌-◌, ◌*◌, ◌++◌, vec_len, vec_capacity}
use Rattle.plain_host.specs.Hosted.{host}
use Rattle.shown_frames.specs.Listed.{words_up}
use Rattle.plain_show.proofs.frames.put_up.Given as goal

abbrev pub invariant-loop-j : goal.invariant-loop-j
invariant-loop-j l = record {
  words : l.into.items ++ words_up (host l.hosting).machine.memory (l.at + 4 * l.j) (l.count - l.j) ≡ words_up (host l.hosting).machine.memory l.at l.count;
  long : vec_len l.into ≡ l.j;
  capacity : vec_capacity l.into ≡ vec_capacity l.fn.into;
}
