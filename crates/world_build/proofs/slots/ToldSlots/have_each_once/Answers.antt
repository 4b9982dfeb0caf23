use Rattle.world_build.proofs.SlotLemmas.{none_in_front}
use Rattle.world_build.proofs.slots.ToldSlots.have_each_once.Goals as goal

pub returns : goal.returns
returns c at s = rw (← c.self.view_is) (none_in_front c.self.inside.slots.entries at s c.len-count.ensures.unique)
