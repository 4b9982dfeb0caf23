use Rattle.std.proofs.Common.{length, sym, ap, ◌∙◌}
use Rattle.source_model.specs.Edits.{SlotText}
use Rattle.slot_text.proofs.TextLemmas.{length-bodies_with}
use Rattle.slot_text.proofs.told.SlotTold.bodies.Goals as goal

pub returns : goal.returns
returns c =
    c.len.ensures ∙ sym (length-bodies_with c.self.inside.rows.items c.self.inside.bodies c.self.invariant) ∙ ap (λ (t : SlotText). length t.bodies) c.self.view_is
