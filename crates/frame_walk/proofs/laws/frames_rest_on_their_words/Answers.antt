use Rattle.frame_walk.proofs.Resting.{rests, laid_as, shown_as}
use Rattle.frame_walk.specs.Walk.{IsFrameOf}
use Rattle.frame_walk.proofs.laws.frames_rest_on_their_words.Goals as goal

pub returns : goal.returns
returns c = λ descs entry end old new n sp window pc held laid same.
    rests descs (λ q. IsFrameOf (descs q)) entry end old new n sp window pc held (λ q s f h. h) laid same
