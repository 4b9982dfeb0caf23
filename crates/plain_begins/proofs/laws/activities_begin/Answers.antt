use Rattle.plain_begins.proofs.Starting.{activities_begin}
use Rattle.plain_begins.proofs.laws.activities_begin.Goals as goal

pub returns : goal.returns
returns c = activities_begin
