-- What is read off the words is what the source says of the things that they stand for.
use Rattle.std.specs.Prelude.{◌≡◌, ◌≢◌, ℕ, List, Option, Some, None, option_and_then, slice_get, codes}
use Rattle.self_terms.specs.declared.values.Value.{Value}
use Rattle.self_terms.specs.declared.values.Value.TheVariants as values
use Rattle.source_model.specs.Edits.{follow, own_content, datum_at, thing_at, initial_in, Path}
use Rattle.source_model.specs.Names.{number_of}
use Rattle.source_model.specs.declared.objects.Content.{Content}
use Rattle.source_model.specs.declared.objects.Content.TheVariants.{Constant, Assignable, Assignment, Parent, Method}
use Rattle.source_model.specs.State.{State}
use Rattle.object_maps.specs.declared.layout.Heap.{Heap}
use Rattle.object_maps.specs.Slots.{Slots}
use Rattle.object_maps.specs.Layout.{number_at}
use Rattle.sparc_store.specs.Words.{Words}
use Rattle.heap_cells.specs.Laying.{Cells}
use Rattle.heap_cells.specs.Source.{Made}
use Rattle.heap_cells.specs.Standing.{Places, IsValue}
use Rattle.heap_cells.specs.Heaps.{IsHeap}
use Rattle.plain_paths.specs.declared.slots.OwnSlot.{OwnSlot}
use Rattle.plain_paths.specs.declared.slots.OwnSlot.TheVariants as own
use Rattle.plain_paths.specs.Paths.{own_at, word_at_path, datum_of}

-- a word that stands for the value, or neither
abbrev pub IsReached : Cells → Places → Option Value → Option ℕ → Type 0
IsReached h p None None = Unit {0}
IsReached h p (Some v) (Some word) = IsValue h p v word
IsReached h p _ _ = ⊥

-- what an own slot over words holds is the content of the slot
abbrev pub IsHeld : Cells → Places → Option Content → OwnSlot → Type 0
IsHeld h p None own.Missing = Unit {0}
IsHeld h p (Some (Constant v)) (own.Data word) = IsValue h p v word
IsHeld h p (Some (Assignable v)) (own.Data word) = IsValue h p v word
IsHeld h p (Some Assignment) own.Assignment = Unit {0}
IsHeld h p (Some (Parent o)) (own.Data word) = IsValue h p (values.Object o) word
IsHeld h p (Some (Method b)) (own.Method body) = b ≡ body
IsHeld h p _ _ = ⊥

-- a statement of each heap that stands for the objects of a state
abbrev pub OfHeaps : (List Slots → Words → Cells → Places → State → Type 0) → Type 0
OfHeaps holds = (maps : List Slots) (mem : Words) (heap : Heap) (h : Cells) (p : Places) (s : State) (made : List Made) → IsHeap maps mem heap h p s.things made → holds maps mem h p s

-- At a path from the lobby a word stands where a value stands there in the source, and it stands for the value.
abbrev pub PathsLead : Type 0
PathsLead = OfHeaps (λ maps mem h p s. (lobby : ℕ) (path : List ℕ) → slice_get p.objects 0 ≡ Some lobby
    → IsReached h p (follow s path) (word_at_path maps mem lobby (number_of s.names (codes "lobby")) path))

-- An own slot over words holds what it holds in the source.
abbrev pub SlotsHold : Type 0
SlotsHold = OfHeaps (λ maps mem h p s. (v : Value) (word name : ℕ) → IsValue h p v word → IsHeld h p (own_content s v name) (own_at maps mem word name))

-- What has an own slot is the object with the number that its word tells.
abbrev pub NumbersStand : Type 0
NumbersStand = OfHeaps (λ maps mem h p s. (v : Value) (word name : ℕ) → IsValue h p v word → own_at maps mem word name ≢ own.Missing → v ≡ values.Object (number_at mem word))

-- A word is the data that its value is.
abbrev pub DataStand : Type 0
DataStand = OfHeaps (λ maps mem h p s. (v : Value) (word : ℕ) → IsValue h p v word → datum_at s v (thing_at s v) ≡ datum_of maps mem word)

-- The initial content of a local that a path says is the data at the path.
abbrev pub InitialsStand : Type 0
InitialsStand = OfHeaps (λ maps mem h p s. (lobby : ℕ) (path : List ℕ) → slice_get p.objects 0 ≡ Some lobby
    → initial_in s (Path path) ≡ option_and_then (datum_of maps mem) (word_at_path maps mem lobby (number_of s.names (codes "lobby")) path))
