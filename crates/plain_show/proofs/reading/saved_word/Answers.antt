use Rattle.std.proofs.Common.{◌∙◌, sym}
use Rattle.plain_host.specs.Hosted.{host}
use Rattle.plain_show.proofs.Walking.{window_word}
use Rattle.plain_show.proofs.reading.saved_word.Goals as goal

pub returns : goal.returns
returns c = c.frame_word.ensures ∙ sym (window_word (host c.args.hosting.now).machine.memory c.args.sp c.args.k c.requires.within)
