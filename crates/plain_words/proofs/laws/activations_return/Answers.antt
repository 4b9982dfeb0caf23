use Rattle.plain_words.proofs.Returning.{return_does}
use Rattle.plain_words.proofs.laws.activations_return.Goals as goal

pub returns : goal.returns
returns c = return_does
