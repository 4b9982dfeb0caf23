use Rattle.plain_lookups.proofs.Alone.{words_stand_for_one}
use Rattle.plain_lookups.proofs.Looking.{objects_sound, values_sound}
use Rattle.plain_lookups.proofs.laws.lookups_may_be_made.Goals as goal

pub returns-clause-objects : goal.returns-clause-objects
returns-clause-objects c = objects_sound

pub returns-clause-values : goal.returns-clause-values
returns-clause-values c = values_sound

pub returns-clause-one : goal.returns-clause-one
returns-clause-one c = words_stand_for_one
