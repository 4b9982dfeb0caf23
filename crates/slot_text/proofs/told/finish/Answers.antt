use Rattle.std.proofs.Common.{length, sym, subst, ap, ◌∙◌}
use Rattle.std.specs.Prelude.{map}
use Rattle.world_build.specs.SlotTexts.{slot_of}
use Rattle.slot_text.specs.Telling.{AreRows, kept_by, shown}
use Rattle.slot_text.proofs.TextLemmas.{texts_of_rows, texts_of_strings}
use Rattle.slot_text.proofs.told.finish.Goals as goal

pub returns : goal.returns
returns c =
    let t = c.args.teller in
    let all = map kept_by t.kept.items in
    let are : AreRows (length t.bodies) all c.in_ok-rows.rows.items = subst (λ n. AreRows n all c.in_ok-rows.rows.items) c.len.ensures c.in_ok-rows.ensures in
    ap (λ bs. record (slot_of (shown t)) { strings = t.strings; bodies = bs }) (texts_of_rows all c.in_ok-rows.rows.items t.bodies are)
    ∙ ap (λ ss. record (slot_of (shown t)) { strings = ss }) (sym (texts_of_strings t.strings))
