use Rattle.plain_begins.proofs.Spawning.{raw_begins}
use Rattle.plain_begins.proofs.laws.raw_activities_begin.Goals as goal

pub returns : goal.returns
returns c = raw_begins
