use Rattle.plain_paths.proofs.Reached.{data_stand, initial_stands}
use Rattle.plain_paths.proofs.laws.data_stand.Goals as goal

pub returns-clause-data : goal.returns-clause-data
returns-clause-data c = λ maps mem heap h p s made is v word value. data_stand maps mem heap h p s made is c.words_are_integers.ensures.back v word value

pub returns-clause-initials : goal.returns-clause-initials
returns-clause-initials c = λ maps mem heap h p s made is lobby path at. initial_stands maps mem heap h p s made is c.words_are_integers.ensures.back lobby path at
