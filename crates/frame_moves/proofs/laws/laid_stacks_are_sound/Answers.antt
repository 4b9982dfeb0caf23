use Rattle.frame_walk.specs.Walk.{IsFrameOf}
use Rattle.frame_moves.proofs.Listed.{stack_of}
use Rattle.frame_moves.proofs.laws.laid_stacks_are_sound.Goals as goal

pub returns : goal.returns
returns c = λ descs entry end n pc s place laid. stack_of descs (λ q. IsFrameOf (descs q)) entry end n pc s (λ q a f h. h) place laid
