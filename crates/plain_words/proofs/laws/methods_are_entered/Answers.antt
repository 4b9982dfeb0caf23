use Rattle.plain_words.proofs.Prologue.{method_enters}
use Rattle.plain_words.proofs.laws.methods_are_entered.Goals as goal

pub returns : goal.returns
returns c = method_enters
