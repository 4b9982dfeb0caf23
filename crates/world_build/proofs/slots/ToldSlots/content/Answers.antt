use Rattle.std.proofs.Common.{◌∙◌, sym, ap}
use Rattle.world_build.specs.Slots.{slot_of}
use Rattle.world_build.proofs.SlotLemmas.{slot_found}
use Rattle.world_build.proofs.slots.ToldSlots.content.Goals as goal

pub returns : goal.returns
returns c = c.copied.ensures ∙ c.get.ensures.value ∙ sym (slot_found c.args.name c.self.inside.slots.entries) ∙ ap (slot_of c.args.name) c.self.view_is
