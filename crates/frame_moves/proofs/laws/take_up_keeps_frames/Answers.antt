use Rattle.std.proofs.Common.{ap}
use Rattle.std.specs.Prelude.{[]}
use Rattle.frame_walk.specs.Walk.{IsFrameOf, activations}
use Rattle.frame_moves.proofs.Moving.{taken_window, take_up_stays, take_up_sound}
use Rattle.frame_moves.proofs.laws.take_up_keeps_frames.Goals as goal

pub returns : goal.returns
returns c = record {
  shows = λ descs n at pc s. ap (λ w. activations descs s.memory n at w pc []) (taken_window s at);
  laid = λ descs entry end n at pc s laid. (take_up_stays descs (λ q. IsFrameOf (descs q)) entry end n at pc s laid).1;
  sound = take_up_sound;
}
