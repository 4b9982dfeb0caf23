use Rattle.plain_words.proofs.Long.{unit_long}
use Rattle.plain_words.proofs.bounds.units_are_short.Goals as goal

pub returns : goal.returns
returns c = unit_long
