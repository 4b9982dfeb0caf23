use Rattle.plain_words.proofs.Simple.{constant_does}
use Rattle.plain_words.proofs.laws.constants_are_pended.Goals as goal

pub returns : goal.returns
returns c = constant_does
