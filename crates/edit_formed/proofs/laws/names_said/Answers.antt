use Rattle.edit_formed.proofs.Read.{edit_says}
use Rattle.edit_formed.proofs.laws.names_said.Goals as goal

pub returns : goal.returns
returns c = edit_says
