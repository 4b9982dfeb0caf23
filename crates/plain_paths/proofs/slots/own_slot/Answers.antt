use Rattle.std.proofs.Common.{◌∙◌, ◌+◌, ◌*◌, sym, ap, arith}
use Rattle.std.specs.Prelude.{Some}
use Rattle.object_maps.specs.Slots.{slots_in, slot_named}
use Rattle.plain_paths.specs.Paths.{is_plain}
use Rattle.plain_paths.proofs.Held.{sound, IsHere, data_here}
use Rattle.plain_paths.proofs.slots.own_slot.Goals as goal

pub map_of-map-requires : goal.map_of-map-requires
map_of-map-requires c = (sound c.args.maps.now c.args.mem.now c.args.word c.requires).readable

pub is_plain-requires : goal.is_plain-requires
is_plain-requires c = rw c.map_of-map.ensures (sound c.args.maps.now c.args.mem.now c.args.word c.requires).mapped

pub slot_of-requires : goal.slot_of-requires
slot_of-requires c = rw c.map_of-map.ensures (sound c.args.maps.now c.args.mem.now c.args.word c.requires).mapped

-- the word of an assignable slot can be loaded
here : (c : goal.In-Some-Field) → IsHere (c.args.word + 7 + 4 * c.in-Some-Field.at)
here c = data_here c.args.maps.now c.args.mem.now c.args.word c.args.name.0 c.in-Some-Field.at c.requires
    (ap (is_plain c.args.maps.now) (sym c.map_of-map.ensures) ∙ sym c.if-not-is_plain.ensures)
    (ap (λ z. slot_named c.args.name.0 (slots_in c.args.maps.now z)) (sym c.map_of-map.ensures) ∙ sym c.slot_of.ensures ∙ c.in-Some-Field.is ∙ ap Some c.in-Some-Field.field-0-is)

pub overflow_add-word : goal.overflow_add-word
overflow_add-word c = let below = (here c).below in omega arith

pub overflow_mul-at : goal.overflow_mul-at
overflow_mul-at c = let below = (here c).below in omega arith

pub overflow_add-word-in-Some-Field : goal.overflow_add-word-in-Some-Field
overflow_add-word-in-Some-Field c = let below = (here c).below in omega arith

pub load-requires : goal.load-requires
load-requires c = (here c).word
