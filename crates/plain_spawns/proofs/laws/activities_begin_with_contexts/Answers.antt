use Rattle.plain_spawns.proofs.Starting.{activities_begin}
use Rattle.plain_spawns.proofs.laws.activities_begin_with_contexts.Goals as goal

pub returns : goal.returns
returns c = activities_begin
