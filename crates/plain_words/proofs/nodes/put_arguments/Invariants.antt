use Rattle.std.proofs.Common.{◌≡◌}
use Rattle.std.specs.Prelude.{◌++◌}
use Rattle.plain_words.specs.Code.{arguments_code}
use Rattle.plain_words.proofs.nodes.put_arguments.Given as goal

abbrev pub invariant-loop-at : goal.invariant-loop-at
invariant-loop-at l = l.code.items ≡ l.fn.code.items ++ arguments_code 9 l.locals l.k l.at
