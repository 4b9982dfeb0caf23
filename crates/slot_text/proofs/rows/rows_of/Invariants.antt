use Rattle.std.proofs.Common.{length}
use Rattle.std.specs.Prelude.{map}
use Rattle.slot_text.specs.Telling.{kept_by}
use Rattle.slot_text.proofs.RowLemmas.{Rest}
use Rattle.slot_text.proofs.rows.rows_of.Given as goal

abbrev pub invariant-loop-x : goal.invariant-loop-x
invariant-loop-x l = Rest l.count (map kept_by l.fn.kept.items) (map kept_by l.left) l.rows.items

abbrev pub decreases-loop-x : goal.decreases-loop-x
decreases-loop-x l = length l.left
