use Rattle.edit_formed.proofs.Read.{edit_stands}
use Rattle.edit_formed.proofs.laws.method_stands.Goals as goal

pub returns : goal.returns
returns c = λ names bytes items read more. edit_stands names bytes items read
