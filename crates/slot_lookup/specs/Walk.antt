-- The parts of a walk.
use Rattle.std.specs.Prelude.{◌≡◌, ℕ, ◌+◌, ◌<◌, ◌==◌, Bool, false, ◌||◌, List, [], ◌∷◌, length, drop, flat_map, Option, Some, None, slice_index_or, slice_get}
use Rattle.source_model.specs.Lookup.{holders, found_of, Found as FoundWords, NotUnderstood as none_found, One as one_found, Ambiguous as two_found}
use Rattle.object_maps.specs.Slots.{Slots, parents_in}
use Rattle.object_maps.specs.declared.maps.SlotKind.{SlotKind}
use Rattle.object_maps.specs.declared.maps.SlotKind.TheVariants.{Constant, Field, Assign, Parent, Method}
use Rattle.object_maps.specs.Sound.{IsValue}
use Rattle.sparc_store.specs.Words.{Words, HasWord}
use Rattle.slot_lookup.specs.declared.slots.Next.{Next}
use Rattle.slot_lookup.specs.declared.slots.Next.TheVariants as next
use Rattle.slot_lookup.specs.declared.walk.Met.{Met}
use Rattle.slot_lookup.specs.declared.walk.Met.TheVariants as met
use Rattle.slot_lookup.specs.Lookup.{has_at, parents_at}

-- what stands at a place of the slots
abbrev pub IsNext : Slots → ℕ → Next → Type 0
IsNext slots at next.Done = parents_in (drop at slots) ≡ []
IsNext slots at next.Other = (at < length slots) × (at < 500000000) × (parents_in (drop at slots) ≡ parents_in (drop (at + 1) slots))
IsNext slots at (next.Parent p) = (at < length slots) × (at < 500000000) × (parents_in (drop at slots) ≡ p ∷ parents_in (drop (at + 1) slots)) × ((name : ℕ) × (slice_get slots at ≡ Some (name, Parent p)))

-- what a slot is to a walk
abbrev pub next_by : SlotKind → Next
next_by (Constant word) = next.Other
next_by (Field at) = next.Other
next_by (Assign at) = next.Other
next_by (Parent word) = next.Parent word
next_by (Method body) = next.Other

-- the value that counts as visited from the start
abbrev pub base_of : Option ℕ → List ℕ
base_of None = []
base_of (Some word) = word ∷ []

abbrev pub seen_in : List Bool → Option ℕ → ℕ → ℕ → Bool
seen_in marks None object number = slice_index_or marks number false
seen_in marks (Some word) object number = (word == object) || slice_index_or marks number false

-- what the walk met, as the definition answers
abbrev pub told : Met → FoundWords
told met.Nothing = none_found
told (met.One h) = one_found h
told (met.Two a b) = two_found a b

-- the answer from the parents of a value
abbrev pub from_parents : List Slots → Words → ℕ → ℕ → Option ℕ → ℕ → FoundWords
from_parents maps mem levels start skip name =
    found_of (flat_map (λ p. holders (has_at maps mem name) (parents_at maps mem) levels p (base_of skip)) (parents_at maps mem start))

-- what is met can be read: one holder's slot, two holders' numbers
abbrev pub AreObjects : List Slots → Words → Met → Type 0
AreObjects maps mem met.Nothing = Unit {0}
AreObjects maps mem (met.One h) = IsValue maps mem h
AreObjects maps mem (met.Two a b) = HasWord (a + 3) × HasWord (b + 3)
