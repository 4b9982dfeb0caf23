use Rattle.plain_turns.proofs.Running.{runs_come, traps_tell, objects_count}
use Rattle.plain_turns.proofs.laws.runs_come.Goals as goal

pub returns-clause-come : goal.returns-clause-come
returns-clause-come c = runs_come

pub returns-clause-tell : goal.returns-clause-tell
returns-clause-tell c = traps_tell

pub returns-clause-objects : goal.returns-clause-objects
returns-clause-objects c = objects_count
