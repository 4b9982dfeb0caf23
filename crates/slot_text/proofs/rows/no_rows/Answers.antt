use Rattle.std.proofs.Common.{◌≡◌, ◌+◌, [], sym, subst, arith}
use Rattle.slot_text.specs.Telling.{AreRows}
use Rattle.slot_text.proofs.RowLemmas.{none_yet, one_row_more}
use Rattle.slot_text.proofs.rows.no_rows.Goals as goal

pub loop-body-init : goal.loop-body-init
loop-body-init c = none_yet c.new-rows.result.items c.new-rows.ensures.items

pub loop-body-preserved : goal.loop-body-preserved
loop-body-preserved c =
    subst (AreRows (c.loop-body._body + 1) []) (sym c.in_ok-push.ensures.items) (one_row_more c.loop-body._body c.loop-body.rows.items c.open.result c.open.ensures c.loop-body.invariant)

pub returns : goal.returns
returns c =
    let same : c.loop-body._body ≡ c.args.count = omega (arith, c.loop-body.auto._body-end, c.loop-body-test.false) in
    subst (λ n. AreRows n [] c.loop-body.rows.items) same c.loop-body.invariant
