use Rattle.plain_words.proofs.Simple.{drop_does}
use Rattle.plain_words.proofs.laws.values_are_dropped.Goals as goal

pub returns : goal.returns
returns c = drop_does
