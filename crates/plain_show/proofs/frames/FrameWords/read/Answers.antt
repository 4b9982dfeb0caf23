use Rattle.plain_host.specs.Hosted.{host}
use Rattle.plain_show.proofs.WordLists.{frame_is}
use Rattle.plain_show.proofs.frames.FrameWords.read.Goals as goal

pub returns : goal.returns
returns c =
    frame_is (host c.args.hosting.now).machine.memory c.args.sp c.args.locals c.args.point
    c.frame_word-self-inside.result c.frame_word-self-inside-2.result c.frame_word-self-inside-3.result c.frame_word-self-inside-4.result c.put_up.new.into.items c.put_down.new.into.items
    c.frame_word-self-inside.ensures c.frame_word-self-inside-2.ensures c.frame_word-self-inside-3.ensures c.frame_word-self-inside-4.ensures c.put_up.ensures.words c.put_down.ensures.words
