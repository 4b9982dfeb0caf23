use Rattle.plain_enters.proofs.Filling.{filled_shows}
use Rattle.plain_enters.proofs.laws.entered_frames_show.Goals as goal

pub returns : goal.returns
returns c = filled_shows
