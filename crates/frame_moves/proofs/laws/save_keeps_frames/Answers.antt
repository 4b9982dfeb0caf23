use Rattle.std.specs.Prelude.{◌+◌}
use Rattle.frame_walk.specs.Walk.{IsFrameOf}
use Rattle.frame_moves.proofs.Spared.{save_spares, save_only}
use Rattle.frame_moves.proofs.Moving.{save_stays, save_sound, save_own}
use Rattle.frame_moves.proofs.laws.save_keeps_frames.Goals as goal

pub returns : goal.returns
returns c = record {
  shows = λ descs entry end n s place sound laid. (save_stays descs (λ q. IsFrameOf (descs q)) entry end n (s.regs 15 + 8) s (λ q a f h. h) place sound laid).0;
  laid = λ descs entry end n s place sound laid. (save_stays descs (λ q. IsFrameOf (descs q)) entry end n (s.regs 15 + 8) s (λ q a f h. h) place sound laid).1;
  sound = save_sound;
  others = λ s b whole can apart. save_spares s b whole can (λ six. apart);
  own = save_own;
  stacks = save_only;
}
