use Rattle.std.proofs.Common.{◌≡◌}
use Rattle.std.specs.Prelude.{◌++◌}
use Rattle.plain_words.specs.Units.{times}
use Rattle.plain_words.proofs.translator.put_points.Given as goal

abbrev pub invariant-loop-word : goal.invariant-loop-word
invariant-loop-word l = l.points.items ≡ l.fn.points.items ++ times l._word l.point
