-- Lookups over all memory and over the words of the heap.
use Rattle.std.specs.Prelude.{◌≡◌, ℕ, List, length, Some, slice_get}
use Rattle.self_terms.specs.declared.values.Value.{Value}
use Rattle.object_maps.specs.Layout.{map_at, number_at}
use Rattle.object_maps.specs.Slots.{Slots, slots_in}
use Rattle.object_maps.specs.Sound.{IsSound, HasListed, IsValue as IsSoundValue}
use Rattle.slot_lookup.specs.Lookup.{found_from, found_above, found_through, slot_at}
use Rattle.sparc_store.specs.Words.{Words}
use Rattle.source_model.specs.State.{State}
use Rattle.heap_cells.specs.Standing.{IsValue}
use Rattle.frame_walk.specs.Raw.{Raw}
use Rattle.raw_steps.specs.Stands.{Sense, Stands}
use Rattle.plain_runs.specs.Host.{Host, heap_words}
use Rattle.plain_steps.specs.Steps.{StandsFor}

-- The objects may be looked up in memory, and in the words of the heap; there are as many as the state has.
pub record AreSound (z : Sense) (h : Host) (s : State) : Type 0 where
  pub memory : IsSound h.maps h.machine.memory z.places.objects
  pub heap : IsSound h.maps (heap_words h.machine.memory) z.places.objects
  pub room : length z.places.objects ≡ length s.things

abbrev pub ObjectsAreSound : Type 0
ObjectsAreSound = (z : Sense) (h : Host) (s : State) → StandsFor z h s → AreSound z h s

-- so may the word of each value
abbrev pub ValuesAreSound : Type 0
ValuesAreSound = (z : Sense) (h : Host) (s : State) → StandsFor z h s → (v : Value) (w : ℕ) → IsValue z.cells z.places v w
    → IsSoundValue h.maps h.machine.memory w × IsSoundValue h.maps (heap_words h.machine.memory) w

-- and a word stands for one value alone
abbrev pub WordsStandForOne : Type 0
WordsStandForOne = (z : Sense) (r : Raw) (s : State) → Stands z r s → (u v : Value) (w : ℕ) → IsValue z.cells z.places u w → IsValue z.cells z.places v w → u ≡ v

-- Over both memories the same is found from a word, above it, and through its parent of a name.
pub record FindSame (maps : List Slots) (mem other : Words) (w : ℕ) : Type 0 where
  pub from : (room name : ℕ) → found_from maps mem room w name ≡ found_from maps other room w name
  pub above : (room name : ℕ) → found_above maps mem room w name ≡ found_above maps other room w name
  pub through : (room parent name : ℕ) → found_through maps mem room (slot_at maps mem parent w) name ≡ found_through maps other room (slot_at maps other parent w) name

-- a word has the same map in both memories, and as an object the same number
abbrev pub ReadsSame : Words → Words → ℕ → Type 0
ReadsSame mem other w = (map_at mem w ≡ map_at other w) × (number_at mem w ≡ number_at other w)

-- So it is where the word and all objects read the same, and each parent in a map is one of the objects.
abbrev pub ObjectsDecide : Type 0
ObjectsDecide = (maps : List Slots) (mem other : Words) (objects : List ℕ) (w : ℕ) → ((map : ℕ) → HasListed objects (slots_in maps map)) → ((number word : ℕ) → slice_get objects number ≡ Some word → ReadsSame mem other word) → ReadsSame mem other w
    → FindSame maps mem other w

-- so it is of the word of each value, over memory and the words of the heap
abbrev pub MemoriesAgree : Type 0
MemoriesAgree = (z : Sense) (h : Host) (s : State) → StandsFor z h s → (v : Value) (w : ℕ) → IsValue z.cells z.places v w → FindSame h.maps h.machine.memory (heap_words h.machine.memory) w
