use Rattle.std.specs.Prelude.{true, false}
use Rattle.plain_words.proofs.Entering.{entry_begins}
use Rattle.plain_words.proofs.laws.methods_with_contexts_are_entered.Goals as goal

pub returns : goal.returns
returns c = λ m p words map n ws. entry_begins true false m p words map n ws
