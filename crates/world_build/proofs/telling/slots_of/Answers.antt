use Rattle.std.proofs.Common.{sym, subst}
use Rattle.source_model.specs.Slots.{AreNamedOnce}
use Rattle.world_build.proofs.ToldLemmas.{once_told}
use Rattle.world_build.proofs.telling.slots_of.Goals as goal

pub of-requires : goal.of-requires
of-requires c = subst AreNamedOnce (sym c.in_ok-list.ensures) (once_told c.args.core c.args.slots.now c.have_each_once.ensures)
