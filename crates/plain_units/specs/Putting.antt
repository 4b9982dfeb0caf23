-- A unit is put behind the others, and the sender's poll is done again.
use Rattle.std.specs.Prelude.{◌≡◌, ◌≢◌, ℕ, ◌-◌, ◌<◌, ◌≤◌, false, length, Some, slice_get}
use Rattle.self_terms.specs.declared.nodes.Node.{Node}
use Rattle.sparc_store.specs.Words.{Words, IsWithin}
use Rattle.source_model.specs.State.{State}
use Rattle.source_model.specs.Soundness.{body_in}
use Rattle.raw_steps.specs.Stands.{Sense}
use Rattle.plain_words.specs.Going.{At, IsCodeFrom}
use Rattle.plain_words.specs.Putting.{Apart}
use Rattle.plain_words.specs.Units.{unit_code, owns_context}
use Rattle.plain_runs.specs.Host.{Host}
use Rattle.plain_runs.specs.declared.status.Status.TheVariants.{Waiting}
use Rattle.plain_runs.specs.Units.{HasUnit}
use Rattle.plain_runs.specs.Services.{next_unit, with_unit}
use Rattle.plain_runs.specs.Sound.{RunsAt, IsHosted}
use Rattle.plain_runs.specs.Course.{AllRun}
use Rattle.plain_steps.specs.Steps.{StandsFor}

-- The unit of a body, which has none yet, stands behind the others in this memory, and all else of it is as it was.
pub record IsPut (h : Host) (c : ℕ) (memory : Words) : Type 0 where
  pub given : 0 < c
  pub known : c ≤ length h.bodies
  pub none : slice_get h.entries (c - 1) ≡ Some 0
  pub region : IsCodeFrom (next_unit h) (length (unit_code h.references (body_in h.bodies c)))
  pub code : At memory (next_unit h) (unit_code h.references (body_in h.bodies c))
  pub apart : Apart h.machine.memory memory (next_unit h) (length (unit_code h.references (body_in h.bodies c)))
  pub within : IsWithin memory

-- only bodies whose activations have no context have units
abbrev pub PlainEntries : Host → Type 0
PlainEntries h = (b at : ℕ) → 0 < b → slice_get h.entries (b - 1) ≡ Some at → at ≢ 0 → owns_context (body_in h.bodies b) ≡ false

-- The host stands for the same state, and the body has its unit.
pub record Standing (z : Sense) (h : Host) (s : State) (c : ℕ) (memory : Words) : Type 0 where
  pub hosted : IsHosted (with_unit c memory h)
  pub stands : StandsFor z (with_unit c memory h) s
  pub unit : HasUnit (with_unit c memory h) c (next_unit h)
  pub plain : PlainEntries h → owns_context (body_in h.bodies c) ≡ false → PlainEntries (with_unit c memory h)

-- and is at the same node's poll
pub record Put (z : Sense) (h : Host) (s : State) (b n c : ℕ) (node : Node) (memory : Words) : Type 0 where
  pub standing : Standing z h s c memory
  pub runs : RunsAt (with_unit c memory h) b n node

abbrev pub UnitsArePut : Type 0
UnitsArePut = (z : Sense) (h : Host) (s : State) (b n c : ℕ) (node : Node) (memory : Words) → StandsFor z h s → IsHosted h → AllRun h → RunsAt h b n node → IsPut h c memory → Put z h s b n c node memory

-- So it is where no activity runs.
abbrev pub UnitsArePutIdle : Type 0
UnitsArePutIdle = (z : Sense) (h : Host) (s : State) (c : ℕ) (memory : Words) → StandsFor z h s → IsHosted h → AllRun h → ((sp pc count : ℕ) → slice_get h.statuses h.current ≢ Some (Waiting sp pc count)) → IsPut h c memory → Standing z h s c memory
