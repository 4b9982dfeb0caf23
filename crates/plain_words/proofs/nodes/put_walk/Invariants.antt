use Rattle.std.proofs.Common.{◌≡◌}
use Rattle.std.specs.Prelude.{◌++◌}
use Rattle.plain_words.specs.Code.{walk}
use Rattle.plain_words.proofs.nodes.put_walk.Given as goal

abbrev pub invariant-loop-at : goal.invariant-loop-at
invariant-loop-at l = l.code.items ≡ l.fn.code.items ++ walk l._at
