use Rattle.plain_lookups.proofs.Telling.{founds_tell}
use Rattle.plain_lookups.proofs.laws.founds_tell.Goals as goal

pub returns : goal.returns
returns c = founds_tell
