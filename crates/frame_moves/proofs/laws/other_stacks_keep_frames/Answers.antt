use Rattle.frame_walk.specs.Walk.{IsFrameOf}
use Rattle.frame_moves.proofs.Moving.{others_stay}
use Rattle.frame_moves.proofs.laws.other_stacks_keep_frames.Goals as goal

pub returns : goal.returns
returns c = record {
  shows = λ descs end m at pc old new own laid. (others_stay descs (λ q. IsFrameOf (descs q)) c.args.entry c.args.other end old new m at pc (λ q a f h. h) c.requires.place c.requires.apart own laid).0;
  laid = λ descs end m at pc old new own laid. (others_stay descs (λ q. IsFrameOf (descs q)) c.args.entry c.args.other end old new m at pc (λ q a f h. h) c.requires.place c.requires.apart own laid).1;
}
