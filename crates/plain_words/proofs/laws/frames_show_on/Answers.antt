use Rattle.plain_words.proofs.Shown.{pended_shows, left_shows}
use Rattle.plain_words.proofs.MadeShown.{made_shows}
use Rattle.plain_words.proofs.BegunShown.{begun_shows}
use Rattle.plain_words.proofs.laws.frames_show_on.Goals as goal

pub returns-clause-pended : goal.returns-clause-pended
returns-clause-pended c = pended_shows

pub returns-clause-left : goal.returns-clause-left
returns-clause-left c = left_shows

pub returns-clause-made : goal.returns-clause-made
returns-clause-made c = made_shows

pub returns-clause-begun : goal.returns-clause-begun
returns-clause-begun c = begun_shows
