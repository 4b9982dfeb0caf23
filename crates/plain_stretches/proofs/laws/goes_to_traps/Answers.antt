use Rattle.plain_stretches.proofs.Runs.{traps_stop}
use Rattle.plain_stretches.proofs.laws.goes_to_traps.Goals as goal

pub returns : goal.returns
returns c = traps_stop
