use Rattle.plain_words.proofs.Long.{frame_small}
use Rattle.plain_words.proofs.bounds.frames_are_small.Goals as goal

pub returns : goal.returns
returns c = frame_small
