-- The heap of a host, over its whole memory.
use Rattle.std.proofs.Common.{◌≡◌, refl, List}
use Rattle.object_maps.specs.declared.layout.Heap.{Heap}
use Rattle.object_maps.specs.Slots.{Slots}
use Rattle.source_model.specs.State.{State}
use Rattle.source_model.specs.declared.objects.Thing.{Thing}
use Rattle.sparc_store.specs.Words.{Words}
use Rattle.heap_cells.specs.Laying.{Cells}
use Rattle.heap_cells.specs.Source.{Made}
use Rattle.heap_cells.specs.Standing.{Places}
use Rattle.heap_cells.specs.Heaps.{IsHeap}
use Rattle.raw_steps.specs.Stands.{Sense}
use Rattle.plain_runs.specs.Host.{Host, heap_words}
use Rattle.plain_steps.specs.Steps.{StandsFor}

-- a heap stands in the words of the heap alone
abbrev pub StandAlone : Type 0
StandAlone = (maps : List Slots) (mem new : Words) (heap : Heap) (h : Cells) (p : Places) (things : List Thing) (made : List Made) → IsHeap maps mem heap h p things made → new.heap ≡ mem.heap → IsHeap maps new heap h p things made

-- the top of the heap and the next object's number
abbrev pub top_of : Host → Heap
top_of h = record { top = h.machine.regs 6; next = h.next }

pub whole : StandAlone → (z : Sense) (h : Host) (s : State) → StandsFor z h s → IsHeap h.maps h.machine.memory (top_of h) z.cells z.places s.things z.made
whole alone z h s stands = alone h.maps (heap_words h.machine.memory) h.machine.memory (top_of h) z.cells z.places s.things z.made stands.stands.heap refl
