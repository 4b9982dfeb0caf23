use Rattle.plain_words.proofs.Reading.{store_does}
use Rattle.plain_words.proofs.laws.locals_are_stored.Goals as goal

pub returns : goal.returns
returns c = store_does
