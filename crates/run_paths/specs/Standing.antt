-- What is read off the words of a running program is what the source says of the state for which machine and host stand.
use Rattle.std.specs.Prelude.{◌≡◌, ◌≢◌, ℕ, List, Option, Some, option_and_then, slice_get, codes}
use Rattle.self_terms.specs.declared.values.Value.{Value}
use Rattle.self_terms.specs.declared.values.Value.TheVariants as values
use Rattle.source_model.specs.Edits.{follow, own_content, datum_at, thing_at, initial_in, Path}
use Rattle.source_model.specs.Names.{number_of}
use Rattle.source_model.specs.State.{State}
use Rattle.object_maps.specs.Layout.{number_at}
use Rattle.heap_cells.specs.Standing.{IsValue}
use Rattle.raw_steps.specs.Stands.{Sense}
use Rattle.plain_runs.specs.Host.{Host}
use Rattle.plain_steps.specs.Steps.{StandsFor}
use Rattle.plain_paths.specs.declared.slots.OwnSlot.{OwnSlot}
use Rattle.plain_paths.specs.declared.slots.OwnSlot.TheVariants as own
use Rattle.plain_paths.specs.Paths.{IsOfHeap, own_at, word_at_path, datum_of}
use Rattle.plain_paths.specs.Laws.{IsHeld, IsReached}

-- a statement of each machine and host that stand for a state
abbrev pub OfHosts : (Sense → Host → State → Type 0) → Type 0
OfHosts holds = (z : Sense) (h : Host) (s : State) → StandsFor z h s → holds z h s

-- the word at a path from the lobby, the first object
abbrev pub reached : Host → State → ℕ → List ℕ → Option ℕ
reached h s lobby path = word_at_path h.maps h.machine.memory lobby (number_of s.names (codes "lobby")) path

abbrev pub own_slot : Host → ℕ → ℕ → OwnSlot
own_slot h word name = own_at h.maps h.machine.memory word name

-- At a path from the lobby a word stands where a value stands there in the source, and it stands for the value.
abbrev pub HostsLead : Type 0
HostsLead = OfHosts (λ z h s. (lobby : ℕ) (path : List ℕ) → slice_get h.references.objects 0 ≡ Some lobby → IsReached z.cells z.places (follow s path) (reached h s lobby path))

-- An own slot over words holds what it holds in the source.
abbrev pub HostsHold : Type 0
HostsHold = OfHosts (λ z h s. (v : Value) (word name : ℕ) → IsValue z.cells z.places v word → IsHeld z.cells z.places (own_content s v name) (own_slot h word name))

-- What has an own slot is the object with the number that its word tells.
abbrev pub HostsNumber : Type 0
HostsNumber = OfHosts (λ z h s. (v : Value) (word name : ℕ) → IsValue z.cells z.places v word → own_slot h word name ≢ own.Missing → v ≡ values.Object (number_at h.machine.memory word))

-- A word is the data that its value is.
abbrev pub HostsData : Type 0
HostsData = OfHosts (λ z h s. (v : Value) (word : ℕ) → IsValue z.cells z.places v word → datum_at s v (thing_at s v) ≡ datum_of h.maps h.machine.memory word)

-- The initial content of a local that a path says is the data at the path.
abbrev pub HostsInitials : Type 0
HostsInitials = OfHosts (λ z h s. (lobby : ℕ) (path : List ℕ) → slice_get h.references.objects 0 ≡ Some lobby
    → initial_in s (Path path) ≡ option_and_then (datum_of h.maps h.machine.memory) (reached h s lobby path))

-- A word that stands for a value may be read.
abbrev pub HostsRead : Type 0
HostsRead = OfHosts (λ z h s. (v : Value) (word : ℕ) → IsValue z.cells z.places v word → IsOfHeap h.maps h.machine.memory word)
