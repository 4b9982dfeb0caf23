use Rattle.edit_formed.proofs.Initials.{strings_there}
use Rattle.edit_formed.proofs.laws.initials_fit.Goals as goal

pub returns : goal.returns
returns c = λ names bytes items read more. strings_there names bytes items
