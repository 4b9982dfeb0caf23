use Rattle.std.specs.Prelude.{true}
use Rattle.plain_words.proofs.Entering.{entry_begins}
use Rattle.plain_words.proofs.laws.blocks_are_entered.Goals as goal

pub returns : goal.returns
returns c = λ owns m p words map n ws. entry_begins owns true m p words map n ws
