use Rattle.frame_walk.specs.Walk.{IsFrameOf}
use Rattle.frame_moves.proofs.Spared.{flush_spares, flush_only}
use Rattle.frame_moves.proofs.Moving.{flush_stays, flush_view_stays, flush_sound, flush_own}
use Rattle.frame_moves.proofs.laws.flush_keeps_frames.Goals as goal

pub returns : goal.returns
returns c = record {
  shows = λ descs entry end n pc s place sound laid. (flush_stays descs (λ q. IsFrameOf (descs q)) entry end n pc s (λ q a f h. h) place sound laid).0;
  laid = λ descs entry end n pc s place sound laid. (flush_stays descs (λ q. IsFrameOf (descs q)) entry end n pc s (λ q a f h. h) place sound laid).1;
  view_shows = λ descs entry end n pc s place sound laid. (flush_view_stays descs (λ q. IsFrameOf (descs q)) entry end n pc s (λ q a f h. h) place sound laid).0;
  view_laid = λ descs entry end n pc s place sound laid. (flush_view_stays descs (λ q. IsFrameOf (descs q)) entry end n pc s (λ q a f h. h) place sound laid).1;
  sound = flush_sound;
  others = flush_spares;
  own = flush_own;
  stacks = flush_only;
}
