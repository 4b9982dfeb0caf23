use Rattle.std.proofs.Common.{◌∙◌, sym, nat_eq}
use Rattle.indexmap.proofs.CallerLemmas.{insert_entry-new}
use Rattle.world_build.proofs.SlotLemmas.{slot_there, slot_missing, slot_added}
use Rattle.world_build.proofs.slots.ToldSlots.add.Goals as goal

pub returns-then-contains_key : goal.returns-then-contains_key
returns-then-contains_key c = slot_there c.args.self.now c.self.inside.slots.entries c.args.slot c.self.view_is (sym c.contains_key.ensures ∙ c.if-contains_key.true)

pub returns : goal.returns
returns c =
    let missing = sym c.contains_key.ensures ∙ c.if-contains_key.false in
    slot_added c.args.self.now c.self.inside.slots.entries c.insert.new.self.entries c.args.slot c.self.view_is missing
    (c.in-Ok.ensures.entries ∙ insert_entry-new nat_eq c.self.inside.slots c.args.slot.name c.args.slot.content (slot_missing c.self.inside.slots.entries c.args.slot missing))
