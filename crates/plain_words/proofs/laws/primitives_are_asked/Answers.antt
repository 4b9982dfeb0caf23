use Rattle.plain_words.proofs.Sending.{primitive_asks}
use Rattle.plain_words.proofs.laws.primitives_are_asked.Goals as goal

pub returns : goal.returns
returns c = primitive_asks
