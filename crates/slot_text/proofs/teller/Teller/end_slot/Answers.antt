use Rattle.std.proofs.Common.{ap, arith}
use Rattle.world_build.specs.SlotTexts.{Told}
use Rattle.slot_text.proofs.teller.Teller.end_slot.Goals as goal

pub add_member-requires : goal.add_member-requires
add_member-requires c = omega (arith, ap (λ (t : Told). t.loading.size) c.in_ok-keep.ensures, c.requires.size)
