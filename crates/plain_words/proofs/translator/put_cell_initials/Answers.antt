use Rattle.std.proofs.Common.{◌≡◌, ◌++◌, ◌+◌, [], ◌∷◌, refl, ap, ◌∙◌, arith}
use Rattle.std.specs.Prelude.{map, slice_get, Some}
use Rattle.plain_words.specs.Code.{cell_initials}
use Rattle.plain_words.specs.Units.{datum_word}
use Rattle.plain_words.proofs.Growing.{cell_next, map_get}
use Rattle.plain_words.proofs.translator.put_cell_initials.Goals as goal

pub loop-at-preserved : goal.loop-at-preserved
loop-at-preserved c =
    let r = c.args.references.now in
    let x = c.local_at-local.result in
    let words = map (λ y. datum_word r y.initial) c.args.locals.now in
    let here : slice_get words c.loop-at.at ≡ Some (datum_word r x.initial) = map_get (λ y. datum_word r y.initial) c.args.locals.now c.loop-at.at x c.local_at-local.ensures in
    let put : c.put_cell_initial.new.code.items ≡ c.loop-at.code.items ++ cell_initials (c.args.slot + c.loop-at.at) (datum_word r x.initial ∷ []) = c.in_ok-put_cell_initial.ensures ∙ ap (λ w. c.loop-at.code.items ++ cell_initials (c.args.slot + c.loop-at.at) (w ∷ [])) c.datum.ensures in
    cell_next c.args.slot (c.args.slot + c.loop-at.at) (c.args.slot + (c.loop-at.at + 1)) c.loop-at.at (datum_word r x.initial) words c.loop-at.code.items c.put_cell_initial.new.code.items here refl (omega arith) put ∙ c.loop-at.invariant
