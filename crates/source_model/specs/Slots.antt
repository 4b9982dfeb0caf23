-- The slots of an object, by their names.
use Rattle.std.specs.Prelude.{◌≡◌, ℕ, ◌==◌, Bool, List, find, slice_get, take, Option, Some, None}
use Rattle.source_model.specs.declared.objects.Slot.{Slot}

abbrev pub has_name : ℕ → Slot → Bool
has_name name slot = slot.name == name

-- the own slot of a name
abbrev pub slot_named : ℕ → List Slot → Option Slot
slot_named name slots = find (has_name name) slots

-- in front of a slot stands none of its name
abbrev pub AreNamedOnce : List Slot → Type 0
AreNamedOnce slots = (at : ℕ) (x : Slot) → slice_get slots at ≡ Some x → slot_named x.name (take at slots) ≡ None
