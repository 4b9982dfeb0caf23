use Rattle.std.proofs.Common.{◌≡◌}
use Rattle.std.specs.Prelude.{◌++◌}
use Rattle.plain_words.specs.Code.{cell_arguments}
use Rattle.plain_words.proofs.translator.put_cell_arguments.Given as goal

abbrev pub invariant-loop-at : goal.invariant-loop-at
invariant-loop-at l = l.code.items ≡ l.fn.code.items ++ cell_arguments 25 0 l.at
