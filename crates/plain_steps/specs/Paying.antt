-- The heap's room is paid for, and maps are there for what units put there.
use Rattle.std.specs.Prelude.{◌≡◌, ℕ, ◌+◌, ◌-◌, ◌*◌, ◌^◌, ◌<◌, ◌≤◌, Some, List, length, slice_index}
use Rattle.object_maps.specs.Slots.{Slots}
use Rattle.sparc_store.specs.Words.{word_at}
use Rattle.sparc_machine.specs.State.{MachineState}
use Rattle.source_model.specs.Soundness.{body_in, HasBody}
use Rattle.heap_cells.specs.Heaps.{IsTold}
use Rattle.heap_cells.specs.Shapes.{Block}
use Rattle.plain_runs.specs.Host.{Host}
use Rattle.plain_runs.specs.Course.{with_machine}

-- All that may be paid has room behind a place in the heap, and its top is no higher than that and the words that were paid; word 1 of the control
-- region has what was left to pay when the host's sums were settled.
pub record IsPaid (start : ℕ) (h : Host) : Type 0 where
  pub room : start + 4 * 4194304 ≤ 0x20000000 + 46137344
  pub top : h.machine.regs 6 ≤ start + 4 * (h.cost + h.machine.regs 3)
  pub left : word_at h.machine.memory 0x30000004 + h.cost ≡ 4194304

-- a map of the blocks of a body
pub record IsBlocksMap (maps : List Slots) (b map : ℕ) : Type 0 where
  pub there : map < length maps
  pub told : (context receiver : ℕ) → IsTold maps (Block map b context receiver)

-- Units know a map of contexts, and for each body of a block that of its blocks; bodies and maps have numbers that fit a tagged word.
pub record HasMaps (h : Host) : Type 0 where
  pub few : length h.maps < 2 ^ 30
  pub bodies : length h.bodies < 2 ^ 30
  pub contexts : h.references.contexts < length h.maps
  pub blocks : (b outer : ℕ) → HasBody h.bodies b → (body_in h.bodies b).outer ≡ Some outer → IsBlocksMap h.maps b (slice_index h.references.blocks (b - 1))

-- Words that leave what was left to pay, and pay for what they put at the heap's top, keep it so.
abbrev pub StepsPay : Type 0
StepsPay = (start : ℕ) (h : Host) (to : MachineState) → IsPaid start h → word_at to.memory 0x30000004 ≡ word_at h.machine.memory 0x30000004 → to.regs 6 + 4 * h.machine.regs 3 ≡ h.machine.regs 6 + 4 * to.regs 3 → IsPaid start (with_machine h to)
