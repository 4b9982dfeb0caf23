use Rattle.plain_lookups.proofs.Trapped.{holders_stand}
use Rattle.plain_lookups.proofs.laws.holders_stand.Goals as goal

pub returns : goal.returns
returns c = holders_stand
