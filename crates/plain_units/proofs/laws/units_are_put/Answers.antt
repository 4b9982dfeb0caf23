use Rattle.plain_units.proofs.Putting.{units_put, units_put_idle}
use Rattle.plain_units.proofs.laws.units_are_put.Goals as goal

pub returns-clause-running : goal.returns-clause-running
returns-clause-running c = units_put

pub returns-clause-idle : goal.returns-clause-idle
returns-clause-idle c = units_put_idle
