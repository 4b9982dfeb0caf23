use Rattle.sparc_store.proofs.Flat.{answers_same}
use Rattle.sparc_store.proofs.stacks.answers_as_flat.Goals as goal

pub returns : goal.returns
returns c = answers_same
