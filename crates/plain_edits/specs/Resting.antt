-- A session rests, and rests again for the state that an accepted edit comes to.
use Rattle.std.specs.Prelude.{◌≡◌, ℕ, ◌+◌, ◌-◌, ◌*◌, ◌^◌, ◌<◌, ◌≤◌, List, length, codes}
use Rattle.sparc_store.specs.Words.{Words}
use Rattle.source_model.specs.Canon.{Each}
use Rattle.source_model.specs.Edits.{with_method}
use Rattle.source_model.specs.Formed.{IsWellFormed}
use Rattle.source_model.specs.Lines.{line}
use Rattle.source_model.specs.Script.{Edit as EditCommand, Read, becomes, command}
use Rattle.source_model.specs.State.{State, Reached}
use Rattle.heap_cells.specs.Standing.{AreBytes, Grows}
use Rattle.raw_steps.specs.Stands.{Sense}
use Rattle.plain_runs.specs.Host.{Host}
use Rattle.plain_runs.specs.Course.{AllRun}
use Rattle.plain_runs.specs.Sound.{IsHosted}
use Rattle.plain_steps.specs.Paying.{IsPaid}
use Rattle.plain_steps.specs.Steps.{StandsFor}
use Rattle.plain_begins.specs.Begins.{CanPark}
use Rattle.plain_turns.specs.Resting.{Rests}
use Rattle.plain_turns.specs.Rooms.{unput}
use Rattle.plain_edits.specs.Heaps.{texts_words}
use Rattle.plain_edits.specs.Edits.{Edit, with_edit, IsAccepted, IsWorded, KnowsBlocks, NewTranslate, IsMemory}

-- the state that the edit comes to
abbrev pub edited_by : Edit → ℕ → State → State
edited_by e o s = with_method e.text o e.bodies s

-- It is the state that the source's command comes to, and well formed.
abbrev pub EditsCome : Type 0
EditsCome = (q : Reached) (path : List (List ℕ)) (e : Edit) (o : ℕ) → IsAccepted q.state path e o → (stop : ℕ) → command (EditCommand path (Read e.text)) stop q ≡ becomes (edited_by e o q.state) (line (codes "edited")) q

abbrev pub EditsForm : Type 0
EditsForm = (s : State) (path : List (List ℕ)) (e : Edit) (o : ℕ) → IsAccepted s path e o → IsWellFormed s → IsWellFormed (edited_by e o s)

-- What is given where an edit in words is that of the source: it is accepted, its words stand for what it says, its strings are of bytes, the words
-- of its bodies fit their fields, and memory is as it leaves it.
pub record IsGiven (z : Sense) (h : Host) (s : State) (path : List (List ℕ)) (e : Edit) (o : ℕ) (memory : Words) : Type 0 where
  pub accepted : IsAccepted s path e o
  pub said : IsWorded z h s e o
  pub knows : KnowsBlocks h
  pub bytes : Each AreBytes e.text.strings
  pub translate : NewTranslate e
  pub leaves : IsMemory h e memory

-- Machine and host then stand for the state that the edit comes to, the host is sound, all bodies run, and what stood for a value still does.
pub record HasEdited (z : Sense) (h : Host) (s : State) (e : Edit) (o : ℕ) (memory : Words) : Type 0 where
  pub sense : Sense
  pub grows : Grows z.cells sense.cells z.places sense.places
  pub stands : StandsFor sense (with_edit e memory h) (edited_by e o s)
  pub hosted : IsHosted (with_edit e memory h)
  pub all : AllRun (with_edit e memory h)
  pub parks : CanPark (with_edit e memory h)
  pub knows : KnowsBlocks (with_edit e memory h)

abbrev pub EditsStand : Type 0
EditsStand = (z : Sense) (h : Host) (s : State) (path : List (List ℕ)) (e : Edit) (o : ℕ) (memory : Words) → StandsFor z h s → IsHosted h → AllRun h → CanPark h → IsWellFormed s → IsGiven z h s path e o memory → HasEdited z h s e o memory

-- The heap's room is paid for behind the strings, where there is so much of it.
abbrev pub EditsPay : Type 0
EditsPay = (z : Sense) (h : Host) (s : State) (path : List (List ℕ)) (e : Edit) (o start : ℕ) (memory : Words) → StandsFor z h s → IsWellFormed s → IsGiven z h s path e o memory
    → start + 4 * texts_words e.text.strings + 4 * 4194304 ≤ 0x20000000 + 46137344 → IsPaid start h → IsPaid (start + 4 * texts_words e.text.strings) (with_edit e memory h)

-- The heap has room behind the strings for all that is left to pay.
abbrev pub HasHeapFor : Host → Edit → Type 0
HasHeapFor h e = h.machine.regs 6 + 4 * texts_words e.text.strings + 4 * 4194304 ≤ 0x20000000 + 46137344 + 4 * (h.cost + h.machine.regs 3)

-- So much tells machine and host: wherever its room was paid for from before, the heap's room is then paid for from a place that its top tells.
abbrev pub paid_from : Host → Edit → ℕ
paid_from h e = h.machine.regs 6 + 4 * texts_words e.text.strings - 4 * (h.cost + h.machine.regs 3)

abbrev pub EditsPayAnew : Type 0
EditsPayAnew = (z : Sense) (h : Host) (s : State) (path : List (List ℕ)) (e : Edit) (o start : ℕ) (memory : Words) → StandsFor z h s → IsWellFormed s → IsGiven z h s path e o memory → HasHeapFor h e → IsPaid start h → IsPaid (paid_from h e) (with_edit e memory h)

-- There is room: in the heap, in the code region for the units of the new bodies, and in numbers for these and for the maps.
pub record HasRoomFor (h : Host) (e : Edit) (memory : Words) : Type 0 where
  pub heap : HasHeapFor h e
  pub code : length h.points + unput (with_edit e memory h).entries (with_edit e memory h).bodies ≤ 8388352
  pub maps : length (with_edit e memory h).maps < 2 ^ 30
  pub bodies : length (with_edit e memory h).bodies < 2 ^ 30

-- The session rests again, for that state, and still knows the maps of blocks.
pub record RestsEdited (h : Host) (s : State) (e : Edit) (o : ℕ) (memory : Words) : Type 0 where
  pub rests : Rests (with_edit e memory h) (edited_by e o s)
  pub knows : KnowsBlocks (with_edit e memory h)

abbrev pub EditsRest : Type 0
EditsRest = (h : Host) (s : State) (path : List (List ℕ)) (e : Edit) (o : ℕ) (memory : Words) → (r : Rests h s) → IsGiven r.sense h s path e o memory → HasRoomFor h e memory → RestsEdited h s e o memory
