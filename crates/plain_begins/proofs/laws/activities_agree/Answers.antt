use Rattle.plain_begins.proofs.Starting.{activities_agree}
use Rattle.plain_begins.proofs.laws.activities_agree.Goals as goal

pub returns : goal.returns
returns c = activities_agree
