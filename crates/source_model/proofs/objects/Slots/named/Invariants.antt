use Rattle.std.proofs.Common.{◌≡◌, drop}
use Rattle.source_model.specs.Slots.{slot_named}
use Rattle.source_model.proofs.objects.Slots.named.Given as goal

-- the slot of the name among those that are left is its slot
abbrev pub invariant-loop-slot : goal.invariant-loop-slot
invariant-loop-slot l = slot_named l.name (drop l.slot-index l.slot-items) ≡ slot_named l.name l.self
