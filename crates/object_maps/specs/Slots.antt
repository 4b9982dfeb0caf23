-- Maps as lists: a map is its slots in order, each a name and what the slot is; the maps stand by their numbers.
use Rattle.std.specs.Prelude.{ℕ, nat_eq, List, [], Option, Some, None, filter_map, slice_index_or}
use Rattle.std.specs.Map.{lookup}
use Rattle.self_terms.specs.declared.names.Name.{Name}
use Rattle.object_maps.specs.declared.maps.SlotKind.{SlotKind}
use Rattle.object_maps.specs.declared.maps.SlotKind.TheVariants.{Constant, Field, Assign, Parent, Method}

abbrev pub Slots : Type 0
Slots = List (ℕ × SlotKind)

-- the slots of the map with a number; none where there is no such map
abbrev pub slots_in : List Slots → ℕ → Slots
slots_in maps map = slice_index_or maps map []

-- what the slot of a name is
abbrev pub slot_named : ℕ → Slots → Option SlotKind
slot_named name slots = lookup (nat_eq name) slots

-- a slot with its name as a call gives it
abbrev pub named : ℕ × SlotKind → Name × SlotKind
named s = (record { 0 = s.0 }, s.1)

abbrev pub parent_of : SlotKind → Option ℕ
parent_of (Constant word) = None
parent_of (Field at) = None
parent_of (Assign at) = None
parent_of (Parent word) = Some word
parent_of (Method body) = None

-- the contents of the parent slots, in slot order
abbrev pub parents_in : Slots → List ℕ
parents_in slots = filter_map (λ s. parent_of s.1) slots
