use Rattle.std.proofs.Common.{◌≡◌, ◌-◌, ◌<◌, length, sym, ap, ◌∙◌, arith}
use Rattle.std.specs.Prelude.{Some, slice_get}
use Rattle.std.proofs.lemmas.Option.{slice_get-get_or}
use Rattle.source_model.specs.Edits.{SlotText}
use Rattle.slot_text.proofs.TextLemmas.{length-bodies_with, get-bodies_with}
use Rattle.slot_text.proofs.told.SlotTold.body.Goals as goal

pub index-row-requires : goal.index-row-requires
index-row-requires c =
    let same : length c.args.self.now.bodies ≡ length c.self.inside.bodies =
    ap (λ (t : SlotText). length t.bodies) (sym c.self.view_is) ∙ length-bodies_with c.self.inside.rows.items c.self.inside.bodies c.self.invariant in
    let rows : length c.self.inside.rows.items ≡ length c.self.inside.bodies = c.self.invariant in
    omega (arith, same, rows, c.self.inside.rows.ok.0, c.requires.given, c.requires.within)

pub at-requires-clause-within : goal.at-requires-clause-within
at-requires-clause-within c =
    let same : length c.args.self.now.bodies ≡ length c.self.inside.bodies =
    ap (λ (t : SlotText). length t.bodies) (sym c.self.view_is) ∙ length-bodies_with c.self.inside.rows.items c.self.inside.bodies c.self.invariant in
    omega (arith, same, c.requires.within)

pub returns : goal.returns
returns c =
    let same : length c.args.self.now.bodies ≡ length c.self.inside.bodies =
    ap (λ (t : SlotText). length t.bodies) (sym c.self.view_is) ∙ length-bodies_with c.self.inside.rows.items c.self.inside.bodies c.self.invariant in
    let rows : length c.self.inside.rows.items ≡ length c.self.inside.bodies = c.self.invariant in
    let there : c.args.number - 1 < length c.self.inside.rows.items = omega (arith, same, rows, c.requires.given, c.requires.within) in
    let row : slice_get c.self.inside.rows.items (c.args.number - 1) ≡ Some c.as_slice.result.now =
    slice_get-get_or c.self.inside.rows.items (c.args.number - 1) c.index-row.result.now there ∙ ap Some (sym c.index-row.ensures) ∙ ap Some (sym c.as_slice.ensures) in
    ap (λ (t : SlotText). slice_get t.bodies (c.args.number - 1)) (sym c.self.view_is)
    ∙ get-bodies_with c.self.inside.rows.items c.self.inside.bodies (c.args.number - 1) c.as_slice.result.now c.at.result.now row c.at.ensures
