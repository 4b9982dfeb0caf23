use Rattle.plain_prims.proofs.Rows.{names_tell, effects_tell}
use Rattle.plain_prims.proofs.laws.names_tell_rows.Goals as goal

pub returns-clause-row : goal.returns-clause-row
returns-clause-row c = names_tell

pub returns-clause-effect : goal.returns-clause-effect
returns-clause-effect c = effects_tell
