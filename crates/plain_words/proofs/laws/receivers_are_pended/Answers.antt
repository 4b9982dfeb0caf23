use Rattle.plain_words.proofs.Simple.{self_does}
use Rattle.plain_words.proofs.laws.receivers_are_pended.Goals as goal

pub returns : goal.returns
returns c = self_does
