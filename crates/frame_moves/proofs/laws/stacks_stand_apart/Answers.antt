use Rattle.frame_moves.proofs.Spared.{low_same}
use Rattle.frame_moves.proofs.Moving.{frame_own, own_then}
use Rattle.frame_moves.proofs.laws.stacks_stand_apart.Goals as goal

pub returns : goal.returns
returns c = record { low = low_same; frame = frame_own; both = own_then }
