-- Words, memory and maps that a lookup may read.
use Rattle.std.specs.Prelude.{◌≡◌, ◌⊎◌, ℕ, ◌+◌, ◌-◌, ◌*◌, ◌%◌, ◌<◌, List, length, slice_get, Some}
use Rattle.sparc_store.specs.Words.{Words, word_at, HasWord}
use Rattle.object_maps.specs.declared.maps.SlotKind.TheVariants.{Parent}
use Rattle.object_maps.specs.Slots.{Slots, slots_in}
use Rattle.object_maps.specs.Layout.{map_at}

-- a value: an integer, or a reference to a word of the memory; its map is there
pub record IsValue (maps : List Slots) (mem : Words) (value : ℕ) : Type 0 where
  pub readable : (value % 4 ≡ 0) ⊎ HasWord (value - 1)
  pub mapped : map_at mem value < length maps

-- a reference to an object with a number
pub record IsObject (maps : List Slots) (mem : Words) (number object : ℕ) : Type 0 where
  pub tagged : object % 4 ≡ 1
  pub first : HasWord (object - 1)
  pub second : HasWord (object + 3)
  pub mapped : map_at mem object < length maps
  pub numbered : word_at mem (object + 3) ≡ 4 * number

-- one of the objects
abbrev pub IsListed : List ℕ → ℕ → Type 0
IsListed objects word = (number : ℕ) × (slice_get objects number ≡ Some word)

-- each object has its number in its second word
abbrev pub AreObjects : List Slots → Words → List ℕ → Type 0
AreObjects maps mem objects = (number word : ℕ) → slice_get objects number ≡ Some word → IsObject maps mem number word

-- each parent of a map is one of the objects
abbrev pub HasListed : List ℕ → Slots → Type 0
HasListed objects slots = (at name word : ℕ) → slice_get slots at ≡ Some (name, Parent word) → IsListed objects word

-- the objects by their numbers: each has its number in its second word, and each parent in a map is one of them
pub record IsSound (maps : List Slots) (mem : Words) (objects : List ℕ) : Type 0 where
  pub object : (number word : ℕ) → slice_get objects number ≡ Some word → IsObject maps mem number word
  pub parent : (map at name word : ℕ) → slice_get (slots_in maps map) at ≡ Some (name, Parent word) → (number : ℕ) × (slice_get objects number ≡ Some word)
