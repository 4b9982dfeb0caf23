use Rattle.plain_names.proofs.Fitting.{slots_on}
use Rattle.plain_names.proofs.Whole.{rests_on}
use Rattle.plain_names.proofs.laws.names_go_on.Goals as goal

pub returns-clause-rests : goal.returns-clause-rests
returns-clause-rests c = rests_on

pub returns-clause-slots : goal.returns-clause-slots
returns-clause-slots c = slots_on
