use Rattle.plain_births.proofs.Meeting.{births_meet, four_are_most}
use Rattle.plain_births.proofs.laws.births_meet.Goals as goal

pub returns-clause-tell : goal.returns-clause-tell
returns-clause-tell c = births_meet

pub returns-clause-most : goal.returns-clause-most
returns-clause-most c = four_are_most
