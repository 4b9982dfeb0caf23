-- Lookup over maps and words: the definition of lookup, where an object is its word.
use Rattle.std.specs.Prelude.{◌+◌, ℕ, Bool, List, [], Option, Some, None, is_some}
use Rattle.source_model.specs.Lookup.{holders, holders_from_all, found_of, Found as Met, NotUnderstood as none_met, One as one_met, Ambiguous as two_met}
use Rattle.object_maps.specs.declared.maps.SlotKind.{SlotKind}
use Rattle.object_maps.specs.declared.maps.SlotKind.TheVariants.{Constant, Field, Assign, Parent, Method}
use Rattle.object_maps.specs.Slots.{Slots, slots_in, slot_named, parents_in}
use Rattle.object_maps.specs.Layout.{map_at, number_at}
use Rattle.sparc_store.specs.Words.{Words}
use Rattle.slot_lookup.specs.declared.sends.Found.{Found}
use Rattle.slot_lookup.specs.declared.sends.Found.TheVariants.{NotUnderstood, One, Ambiguous}

-- the own slots of a value
abbrev pub slots_of : List Slots → Words → ℕ → Slots
slots_of maps mem value = slots_in maps (map_at mem value)

-- the own slot of a name
abbrev pub slot_at : List Slots → Words → ℕ → ℕ → Option SlotKind
slot_at maps mem name value = slot_named name (slots_of maps mem value)

-- whether a value has an own slot of a name
abbrev pub has_at : List Slots → Words → ℕ → ℕ → Bool
has_at maps mem name value = is_some (slot_at maps mem name value)

-- the contents of a value's parent slots, in slot order
abbrev pub parents_at : List Slots → Words → ℕ → List ℕ
parents_at maps mem value = parents_in (slots_of maps mem value)

abbrev pub one_of : ℕ → Option SlotKind → Found
one_of holder None = NotUnderstood
one_of holder (Some kind) = One holder kind

-- an answer with the holder's slot, or with the numbers of the two holders
abbrev pub shown : List Slots → Words → ℕ → Met → Found
shown maps mem name none_met = NotUnderstood
shown maps mem name (one_met holder) = one_of holder (slot_at maps mem name holder)
shown maps mem name (two_met first second) = Ambiguous (number_at mem first) (number_at mem second)

-- a send to a value; one level more than there is room for objects, since a value without a number counts too
abbrev pub found_from : List Slots → Words → ℕ → ℕ → ℕ → Found
found_from maps mem room start name = shown maps mem name (found_of (holders (has_at maps mem name) (parents_at maps mem) (room + 1) start []))

-- a resend by a method of a holder
abbrev pub found_above : List Slots → Words → ℕ → ℕ → ℕ → Found
found_above maps mem room holder name =
    shown maps mem name (found_of (holders_from_all (has_at maps mem name) (parents_at maps mem) room (parents_at maps mem holder)))

-- a send to the content of a slot, if that is a parent slot
abbrev pub found_through : List Slots → Words → ℕ → Option SlotKind → ℕ → Found
found_through maps mem room (Some (Parent to)) name = found_from maps mem room to name
found_through maps mem room (Some (Constant word)) name = NotUnderstood
found_through maps mem room (Some (Field at)) name = NotUnderstood
found_through maps mem room (Some (Assign at)) name = NotUnderstood
found_through maps mem room (Some (Method body)) name = NotUnderstood
found_through maps mem room None name = NotUnderstood
