-- What holds of a machine and its host wherever plain code runs.
use Rattle.std.specs.Prelude.{◌≡◌, ◌≢◌, ◌⊎◌, ℕ, zero, suc, ◌+◌, ◌-◌, ◌*◌, ◌/◌, ◌%◌, ◌<◌, ◌≤◌, List, [], ◌∷◌, length, Some, slice_get, All, true}
use Rattle.self_terms.specs.declared.nodes.Node.{Node}
use Rattle.self_terms.specs.declared.nodes.Node.TheVariants as nodes
use Rattle.self_terms.specs.declared.bodies.Body.{Body}
use Rattle.self_terms.specs.declared.bodies.Local.{Local}
use Rattle.self_terms.specs.declared.values.Datum.{Datum}
use Rattle.self_terms.specs.declared.values.Datum.TheVariants as datum
use Rattle.sparc_insn.specs.declared.insn.Insn.TheVariants.{Trap}
use Rattle.sparc_store.specs.Words.{Words, word_at, HasFrame, IsWithin}
use Rattle.sparc_store.specs.Chain.{IsFrame}
use Rattle.sparc_store.specs.Windows.{kept, saved_at, frame_before, but_first}
use Rattle.sparc_machine.specs.State.{MachineState}
use Rattle.source_model.specs.Soundness.{body_in}
use Rattle.frame_walk.specs.Places.{Frame}
use Rattle.frame_walk.specs.Raw.{Thread, Going, becomes}
use Rattle.frame_walk.specs.Walk.{activations, AreLaid}
use Rattle.self_terms.specs.Depths.{taken, depth, is_inner}
use Rattle.plain_words.specs.Going.{At, StandsAt}
use Rattle.plain_words.specs.Translating.{CanTranslate}
use Rattle.plain_words.specs.Units.{frame_words, frame_locals}
use Rattle.plain_runs.specs.Host.{Host, Status, Waiting, seen, descriptor_at, raw_of}
use Rattle.plain_runs.specs.Units.{HasUnit, IsPoll, IsInPoll, IsBehindCall}

-- a window has nothing from number 16 on
abbrev pub IsWindow : (ℕ → ℕ) → Type 0
IsWindow = IsFrame

-- where the oldest activation of an activity returns to, and where its stack's frame of entry begins
abbrev pub ending_stub : ℕ
ending_stub = 0x10000008

abbrev pub entry_frame : ℕ → ℕ
entry_frame k = 0x40000000 + k * 0x02000000 + 0x01000000

-- a frame of a body between two addresses of a stack
pub record IsRoomy (h : Host) (b sp fp : ℕ) : Type 0 where
  pub ends : fp ≡ sp + 4 * frame_words (body_in h.bodies b)
  pub place : HasFrame sp (frame_words (body_in h.bodies b))

-- a frame that waits for an answer
pub record IsCaller (h : Host) (pc sp fp : ℕ) : Type 0 where
  pub body : ℕ
  pub number : ℕ
  pub node : Node
  pub call : IsBehindCall h pc body number node
  pub room : IsRoomy h body sp fp

-- the objects that a node and an initial content name are among the first so many
abbrev pub NamesObject : ℕ → Node → Type 0
NamesObject objects (nodes.Str o) = o < objects
NamesObject objects _ = Unit {0}

abbrev pub HoldsObject : ℕ → Datum → Type 0
HoldsObject objects (datum.Object o) = o < objects
HoldsObject objects _ = Unit {0}

-- A body that plain code runs, over so many objects: each node takes values that are there, and all but those that end it have one behind
-- them; its words fit their fields; and the objects that it names are there.
pub record IsRunnable (objects : ℕ) (x : Body) : Type 0 where
  pub takes : (n : ℕ) (node : Node) → slice_get x.nodes n ≡ Some node → taken node ≤ depth x.nodes n
  pub room : (n : ℕ) → 28 + frame_locals x + depth x.nodes n ≤ frame_words x
  pub ends : (n : ℕ) (node : Node) → slice_get x.nodes n ≡ Some node → is_inner node ≡ true → (next : Node) × (slice_get x.nodes (n + 1) ≡ Some next)
  pub translates : CanTranslate x
  pub names : (n : ℕ) (node : Node) → slice_get x.nodes n ≡ Some node → NamesObject objects node
  pub holds : (k : ℕ) (y : Local) → slice_get x.locals k ≡ Some y → HoldsObject objects y.initial

-- the body of a number
abbrev pub Runs : Host → ℕ → Type 0
Runs h b = IsRunnable (length h.references.objects) (body_in h.bodies b)

-- The current activity runs, and the frame in view is that of its youngest activation, of a body; the others wait.
pub record InFrame (h : Host) (b : ℕ) : Type 0 where
  pub sp : ℕ
  pub pc : ℕ
  pub known : ℕ
  pub running : slice_get h.statuses h.current ≡ Some (Waiting sp pc known)
  pub frame : IsRoomy h b (h.machine.regs 14) (h.machine.regs 30)
  pub older : ℕ
  pub count : h.machine.regs 4 ≡ suc older
  pub few : older < 4096
  pub held : length h.machine.older ≤ suc older
  pub callers : AreLaid (IsCaller h) (entry_frame h.current) ending_stub h.machine.memory older (h.machine.regs 30) (frame_before h.machine.memory (h.machine.regs 30) h.machine.older) (h.machine.regs 31 + 8) (but_first h.machine.older)

-- it is at the poll of a node
pub record RunsAt (h : Host) (b n : ℕ) (node : Node) : Type 0 where
  pub view : InFrame h b
  pub stands : StandsAt h.machine h.machine.pc
  pub poll : IsPoll h h.machine.pc b n
  pub node_is : slice_get (body_in h.bodies b).nodes n ≡ Some node

-- a frame of an activity that waits: it waits for an answer, or is in a poll
pub data IsHeld (h : Host) (pc sp fp : ℕ) : Type 0 where
  Calls : IsCaller h pc sp fp → IsHeld h pc sp fp
  Polls : (b n : ℕ) → IsInPoll h pc b n → Runs h b → IsRoomy h b sp fp → IsHeld h pc sp fp

-- Frames that stand in a memory, in the stack of an activity, so many of them: the youngest, which begins at sp, is that of a body, at the poll of
-- a node, where its code goes on; the others wait for an answer.
pub record CanTakeUp (h : Host) (memory : Words) (k sp pc count : ℕ) : Type 0 where
  pub body : ℕ
  pub number : ℕ
  pub poll : IsPoll h pc body number
  pub frame : IsRoomy h body sp (saved_at memory sp 14)
  pub older : ℕ
  pub counted : count ≡ suc older
  pub few : older < 4096
  pub callers : AreLaid (IsCaller h) (entry_frame k) ending_stub memory older (saved_at memory sp 14) (saved_at memory (saved_at memory sp 14)) (saved_at memory sp 15 + 8) []

-- What holds wherever plain code runs, beside the activity that runs: memory is whole; the units stand that are said to stand; so does
-- the stub to which the oldest activations return; and the frames of each other activity lie in its stack, as they were parked.
pub record IsHosted (h : Host) : Type 0 where
  pub within : IsWithin h.machine.memory
  pub register_0 : h.machine.regs 0 ≡ 0
  pub windows : All IsWindow h.machine.older
  pub units : (b at : ℕ) → 0 < b → slice_get h.entries (b - 1) ≡ Some at → at ≢ 0 → HasUnit h b at
  pub stub : At h.machine.memory ending_stub (Trap 9 ∷ [])
  pub activities : length h.statuses ≤ 4
  pub others : (k sp pc count : ℕ) → slice_get h.statuses k ≡ Some (Waiting sp pc count) → k ≢ h.current
      → AreLaid (IsHeld h) (entry_frame k) ending_stub h.machine.memory count sp (saved_at h.machine.memory sp) pc []
  pub parked : (k sp pc count : ℕ) → slice_get h.statuses k ≡ Some (Waiting sp pc count) → k ≢ h.current → CanTakeUp h h.machine.memory k sp pc count
  pub goal : word_at h.machine.memory 0x30000000 ≤ 1000000000

-- the activations that wait below the youngest of the current activity, so many of them
abbrev pub callers_of : Host → ℕ → List Frame
callers_of h older =
    activations (descriptor_at h) h.machine.memory older (h.machine.regs 30) (frame_before h.machine.memory (h.machine.regs 30) h.machine.older) (h.machine.regs 31 + 8) (but_first h.machine.older)

-- The host with its machine gone on: what it shows is what it showed, but for a step and the current activity, which is this now.
pub record GoesOn (h to : Host) (now : Thread) : Type 0 where
  pub hosted : IsHosted to
  pub goal : word_at to.machine.memory 0x30000000 ≡ word_at h.machine.memory 0x30000000
  pub left : word_at to.machine.memory 0x30000004 ≡ word_at h.machine.memory 0x30000004
  pub raw : raw_of to ≡ becomes (raw_of h) now
