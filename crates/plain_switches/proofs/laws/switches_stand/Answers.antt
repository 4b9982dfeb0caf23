use Rattle.plain_switches.proofs.Switching.{switches_count, switches_show, switches_stand, switches_come}
use Rattle.plain_switches.proofs.laws.switches_stand.Goals as goal

pub returns-clause-counts : goal.returns-clause-counts
returns-clause-counts c = switches_count

pub returns-clause-shows : goal.returns-clause-shows
returns-clause-shows c = switches_show

pub returns-clause-stands : goal.returns-clause-stands
returns-clause-stands c = switches_stand

pub returns-clause-comes : goal.returns-clause-comes
returns-clause-comes c = switches_come
