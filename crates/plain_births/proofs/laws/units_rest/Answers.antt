use Rattle.plain_births.proofs.Units.{units_fit_there, units_rest}
use Rattle.plain_births.proofs.laws.units_rest.Goals as goal

pub returns-clause-room : goal.returns-clause-room
returns-clause-room c = units_fit_there

pub returns-clause-unit : goal.returns-clause-unit
returns-clause-unit c = units_rest
