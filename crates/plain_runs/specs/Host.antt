-- A machine with what its host keeps beside it, and what both show of a running program.
use Rattle.std.specs.Prelude.{ℕ, zero, suc, ◌+◌, ◌-◌, ◌*◌, ◌/◌, ◌==◌, if◌then◌else◌, get_or, List, [], ◌∷◌}
use Rattle.self_terms.specs.declared.bodies.Body.{Body}
use Rattle.object_maps.specs.Slots.{Slots}
use Rattle.object_maps.specs.declared.layout.Heap.{Heap}
use Rattle.sparc_store.specs.Words.{Words}
use Rattle.sparc_store.specs.Windows.{kept, saved_at}
use Rattle.sparc_machine.specs.State.{MachineState}
use Rattle.source_model.specs.Soundness.{body_in}
use Rattle.frame_walk.specs.Places.{Descriptor, Frame}
use Rattle.frame_walk.specs.Walk.{activations}
use Rattle.plain_words.specs.declared.references.References.{References}
use Rattle.plain_words.specs.declared.units.Point.{Point}
use Rattle.plain_words.specs.Units.{point_descriptor, frame_locals}
pub use Rattle.plain_runs.specs.declared.status.Status.{Status}
pub use Rattle.plain_runs.specs.declared.status.Status.TheVariants.{Waiting, Answered, Failed}
use Rattle.frame_walk.specs.Raw.{Thread, Going, Answered as Answer, Failed as Failure, Raw}

-- `next` is the next object's number; `entries` has for each body the address of its unit, 0 where it has none yet; `points` has what each word
-- of the units says; `steps` and `cost` are the sums up to the last service, and %g2 and %g3 count on. %g4 is the number of activations of the
-- current activity, %g6 the top of the heap.
pub record Host : Type 0 where
  pub machine : MachineState
  pub maps : List Slots
  pub next : ℕ
  pub bodies : List Body
  pub references : References
  pub entries : List ℕ
  pub points : List Point
  pub statuses : List Status
  pub current : ℕ
  pub steps : ℕ
  pub cost : ℕ

-- units stand from here on
abbrev pub first_unit : ℕ
first_unit = 0x10000400

abbrev pub point_at : Host → ℕ → Point
point_at h pc = get_or h.points ((pc - first_unit) / 4) (record { body = 0; node = 0; pending = 0 })

abbrev pub described : Host → Point → Descriptor
described h p = point_descriptor (frame_locals (body_in h.bodies p.body)) p

unfoldable pub descriptor_at : Host → ℕ → Descriptor
descriptor_at h pc = described h (point_at h pc)

-- the activations of the current activity, and those of one that waits
abbrev pub seen : Host → List Frame
seen h = activations (descriptor_at h) h.machine.memory (h.machine.regs 4) (h.machine.regs 14) (kept h.machine.regs) h.machine.pc h.machine.older

abbrev pub waiting : Host → ℕ → ℕ → ℕ → List Frame
waiting h sp pc count = activations (descriptor_at h) h.machine.memory count sp (saved_at h.machine.memory sp) pc []

abbrev pub thread_of : Host → ℕ → Status → Thread
thread_of h k (Waiting sp pc count) = Going (if k == h.current then seen h else waiting h sp pc count)
thread_of h k (Answered w) = Answer w
thread_of h k (Failed e p) = Failure e p

abbrev pub threads_from : Host → ℕ → List Status → List Thread
threads_from h k [] = []
threads_from h k (s ∷ ss) = thread_of h k s ∷ threads_from h (k + 1) ss

-- the words of the heap alone
abbrev pub heap_words : Words → Words
heap_words memory = record { code = []; heap = memory.heap; control = []; stacks = [] }

-- what machine and host show
abbrev pub raw_of : Host → Raw
raw_of h = record {
  maps = h.maps;
  mem = heap_words h.machine.memory;
  heap = record { top = h.machine.regs 6; next = h.next };
  threads = threads_from h 0 h.statuses;
  current = h.current;
  steps = h.steps + h.machine.regs 2;
  cost = h.cost + h.machine.regs 3;
}
