use Rattle.std.proofs.Common.{rules}
use Rattle.world_build.proofs.ThingLemmas.{string_kept}
use Rattle.world_build.proofs.things.ToldThings.add_slot.Goals as goal

pub returns-in-Text : goal.returns-in-Text
returns-in-Text c = string_kept c.self.inside.things.items c.args.self.now c.args.object c.index_mut.result.now c.in-Text.field-0 c.args.slot c.self.view_is (search rules) c.index_mut.ensures.value c.in-Text.is
