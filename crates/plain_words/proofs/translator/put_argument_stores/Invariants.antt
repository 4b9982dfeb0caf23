use Rattle.std.proofs.Common.{◌≡◌}
use Rattle.std.specs.Prelude.{◌++◌}
use Rattle.plain_words.specs.Code.{argument_stores}
use Rattle.plain_words.proofs.translator.put_argument_stores.Given as goal

abbrev pub invariant-loop-at : goal.invariant-loop-at
invariant-loop-at l = l.code.items ≡ l.fn.code.items ++ argument_stores 25 0 l.at
