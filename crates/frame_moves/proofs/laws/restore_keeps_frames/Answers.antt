use Rattle.std.proofs.Common.{ap}
use Rattle.std.specs.Prelude.{◌+◌}
use Rattle.sparc_store.specs.Windows.{but_first}
use Rattle.frame_walk.specs.Walk.{IsFrameOf, activations}
use Rattle.frame_moves.proofs.Moving.{restored_window, restore_stays, restore_sound}
use Rattle.frame_moves.proofs.laws.restore_keeps_frames.Goals as goal

pub returns : goal.returns
returns c = record {
  shows = λ descs m n s sound. ap (λ w. activations descs s.memory n (s.regs 30) w (s.regs 31 + 8) (but_first s.held)) (restored_window m s sound);
  laid = λ descs entry end m n s sound laid. restore_stays (λ q. IsFrameOf (descs q)) entry end m n (s.regs 31 + 8) s sound laid;
  sound = restore_sound;
}
