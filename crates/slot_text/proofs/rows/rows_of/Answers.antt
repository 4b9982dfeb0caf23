use Rattle.std.proofs.Common.{◌∷◌, sym, subst}
use Rattle.std.specs.Prelude.{map}
use Rattle.slot_text.specs.Contents.{initial}
use Rattle.slot_text.specs.Telling.{kept_by}
use Rattle.slot_text.proofs.RowLemmas.{Rest, all_left, none_left, gives}
use Rattle.slot_text.proofs.rows.rows_of.Goals as goal

pub loop-x-init : goal.loop-x-init
loop-x-init c =
    subst (λ xs. Rest c.args.count (map kept_by c.args.kept.items) (map kept_by xs) c.in_ok-rows.rows.items) (sym c.of-left.ensures)
    (all_left c.args.count (map kept_by c.args.kept.items) c.in_ok-rows.rows.items c.in_ok-rows.ensures)

pub loop-x-preserved : goal.loop-x-preserved
loop-x-preserved c =
    let all = map kept_by c.args.kept.items in
    let first : Rest c.args.count all ((c.in-Some.x.body, initial c.in-Some.x.initial) ∷ map kept_by c.pop.new.self) c.loop-x.rows.items =
    subst (λ xs. Rest c.args.count all (map kept_by xs) c.loop-x.rows.items) c.in-Some.ensures c.loop-x.invariant in
    subst (Rest c.args.count all (map kept_by c.pop.new.self)) (sym c.in_ok-give.ensures) (gives c.args.count all (map kept_by c.pop.new.self) c.loop-x.rows.items c.in-Some.x.body c.in-Some.x.initial first)

pub returns : goal.returns
returns c =
    let all = map kept_by c.args.kept.items in
    none_left c.args.count all c.loop-x.rows.items (subst (λ xs. Rest c.args.count all (map kept_by xs) c.loop-x.rows.items) c.in_default.ensures.0 c.loop-x.invariant)
