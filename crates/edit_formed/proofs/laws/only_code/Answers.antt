use Rattle.edit_formed.proofs.Read.{edit_codes}
use Rattle.edit_formed.proofs.laws.only_code.Goals as goal

pub returns : goal.returns
returns c = edit_codes
