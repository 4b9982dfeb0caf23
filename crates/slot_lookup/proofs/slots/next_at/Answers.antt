use Rattle.slot_lookup.specs.Lookup.{slots_of}
use Rattle.slot_lookup.proofs.SlotLemmas.{nothing_left, next_there}
use Rattle.slot_lookup.proofs.slots.next_at.Goals as goal

pub returns-in-None : goal.returns-in-None
returns-in-None c = nothing_left (slots_of c.args.maps.now c.args.mem.now c.args.value) c.args.at (rw c.map_of-map.ensures at c.in-None.ensures.slot)

pub returns-in-Some : goal.returns-in-Some
returns-in-Some c =
    rw (c.next_of.ensures, ← c.map_of-map.ensures)
    (next_there _ c.args.at (c.in-Some.field-0-0, c.in-Some.kind) c.in-Some.ensures.slot c.in-Some.ensures.small)
