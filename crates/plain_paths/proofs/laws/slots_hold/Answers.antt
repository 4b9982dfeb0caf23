use Rattle.plain_paths.proofs.Held.{value_numbered}
use Rattle.plain_paths.proofs.Reached.{slots_held}
use Rattle.plain_paths.proofs.laws.slots_hold.Goals as goal

pub returns-clause-slots : goal.returns-clause-slots
returns-clause-slots c = λ maps mem heap h p s made is v word name value. slots_held maps mem heap h p s made is v word name value

pub returns-clause-numbers : goal.returns-clause-numbers
returns-clause-numbers c = λ maps mem heap h p s made is v word name value there. value_numbered maps mem heap h p s.things made is v word name value there
