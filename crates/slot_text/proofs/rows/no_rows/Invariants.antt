use Rattle.std.proofs.Common.{[]}
use Rattle.slot_text.specs.Telling.{AreRows}
use Rattle.slot_text.proofs.rows.no_rows.Given as goal

abbrev pub invariant-loop-body : goal.invariant-loop-body
invariant-loop-body l = AreRows l._body [] l.rows.items
