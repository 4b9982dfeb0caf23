use Rattle.sparc_store.proofs.Framing.{frame_word}
use Rattle.plain_show.proofs.frames.frame_word.Goals as goal

pub word-requires : goal.word-requires
word-requires c = frame_word c.args.sp c.args.words c.args.k c.requires.frame c.requires.within
