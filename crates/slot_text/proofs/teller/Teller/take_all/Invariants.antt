use Rattle.std.proofs.Common.{◌≡◌, ◌+◌, ◌-◌, drop, length}
use Rattle.world_build.specs.Steps.{IsWithin}
use Rattle.world_build.specs.SlotTexts.{told}
use Rattle.slot_text.specs.Telling.{shown}
use Rattle.slot_text.proofs.teller.Teller.take_all.Given as goal

abbrev pub invariant-loop-item : goal.invariant-loop-item
invariant-loop-item l = record {
  taken : told l.bytes (drop l.item-index l.items) (shown l.self) ≡ told l.bytes l.items (shown l.fn.self);
  room : IsWithin (450000000 - length l.items + l.item-index) (shown l.self).loading;
}
