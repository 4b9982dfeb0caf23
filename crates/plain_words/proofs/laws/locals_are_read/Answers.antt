use Rattle.plain_words.proofs.Reading.{read_does}
use Rattle.plain_words.proofs.laws.locals_are_read.Goals as goal

pub returns : goal.returns
returns c = read_does
