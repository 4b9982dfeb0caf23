use Rattle.plain_unwinds.proofs.Walkable.{activities_may_end}
use Rattle.plain_unwinds.proofs.laws.activities_may_end.Goals as goal

pub returns : goal.returns
returns c = activities_may_end
