-- Where nothing is entered, and what tells that.
use Rattle.std.specs.Prelude.{◌≡◌, ℕ, ◌+◌, ◌/◌, ◌<◌, ◌≤◌, Bool, true, false, nat_eq, not, ◌&&◌, length, Some, None, Err}
use Rattle.self_terms.specs.declared.errors.ErrorName.{ErrorName}
use Rattle.self_terms.specs.declared.errors.ErrorName.TheVariants as errors
use Rattle.self_terms.specs.declared.nodes.Node.{Node}
use Rattle.self_terms.specs.declared.values.BodyId.{BodyId}
use Rattle.self_terms.specs.declared.values.Value.TheVariants as values
use Rattle.sparc_store.specs.Words.{word_at}
use Rattle.sparc_machine.specs.State.{MachineState}
use Rattle.source_model.specs.declared.objects.Content.TheVariants.{Method}
use Rattle.source_model.specs.Messages.{Met, Holds}
use Rattle.source_model.specs.Soundness.{body_in}
use Rattle.source_model.specs.State.{State}
use Rattle.source_model.specs.Step.{done}
use Rattle.frame_walk.specs.Places.{Frame}
use Rattle.raw_steps.specs.Sends.{here_of, maker_frame}
use Rattle.raw_steps.specs.Stands.{Sense}
use Rattle.plain_words.specs.Moves.{IsContext}
use Rattle.plain_words.specs.Units.{owns_context}
use Rattle.plain_runs.specs.Host.{Host, raw_of}
use Rattle.plain_runs.specs.Sound.{RunsAt}
use Rattle.plain_runs.specs.Course.{CanGo}
use Rattle.plain_steps.specs.Steps.{StandsFor}
use Rattle.plain_sends.specs.Messages.{IsMessaged}
use Rattle.plain_evaluates.specs.Evaluates.{context_words, frames_waiting}

-- The mark of the context of the block in %o0: where the frame of the block's maker begins, 0 where that has ended. A live one's maker runs in the
-- current activity where its frame lies in the same stack as the frame in view.
abbrev pub mark_at : MachineState → ℕ
mark_at m = word_at m.memory (word_at m.memory (m.regs 8 + 7) + 7)

abbrev pub is_live : MachineState → Bool
is_live m = not (nat_eq (mark_at m) 0) && nat_eq (mark_at m / 0x02000000) (m.regs 14 / 0x02000000)

-- At the trap of a message for a block the words that this reads are there, and it decides whether the mark is that of a frame of the current
-- activity.
pub record Decides (z : Sense) (h : Host) (s : State) (b n : ℕ) (node : Node) (args name : ℕ) (met : Met) (r : RunsAt h b n node) (to : MachineState) (q : IsMessaged z h s b n node args name met r to) : Type 0 where
  pub block : IsContext (to.regs 8) 0
  pub context : IsContext (word_at to.memory (to.regs 8 + 7)) 0
  pub live : is_live to ≡ true → (y : Frame) × (maker_frame (raw_of h).mem q.words (frames_waiting z h s b n node args name met r to q) ≡ Some y)
  pub gone : is_live to ≡ false → maker_frame (raw_of h).mem q.words (frames_waiting z h s b n node args name met r to q) ≡ None

abbrev pub MarksDecide : Type 0
MarksDecide = (z : Sense) (h : Host) (s : State) (b n : ℕ) (node : Node) (args name : ℕ) (met : Met) (r : RunsAt h b n node) (to : MachineState) (q : IsMessaged z h s b n node args name met r to) → StandsFor z h s → CanGo h
    → (block : BodyId) (maker : ℕ) → q.message.receiver ≡ values.Block block maker → Decides z h s b n node args name met r to q

-- The node's step is this error.
abbrev pub IsError : (z : Sense) (h : Host) (s : State) (b n : ℕ) (node : Node) (args name : ℕ) (met : Met) (r : RunsAt h b n node) (to : MachineState) → IsMessaged z h s b n node args name met r to → ErrorName → Type 0
IsError z h s b n node args name met r to q e = done (here_of s q.sender q.older) node ≡ Err e

-- so much plain cost isn't left of what a session has
abbrev pub IsCostly : Host → MachineState → ℕ → Type 0
IsCostly h m words = 4194304 < h.cost + m.regs 3 + words

-- Where a method of an object is met: 4096 activations are there, as %g4 counts them; or fewer are, and a context can't be paid.
pub record MethodRefused (z : Sense) (h : Host) (s : State) (b n : ℕ) (node : Node) (args name : ℕ) (met : Met) (r : RunsAt h b n node) (to : MachineState) (q : IsMessaged z h s b n node args name met r to) (c : BodyId) : Type 0 where
  pub overflow : 4096 ≤ to.regs 4 → IsError z h s b n node args name met r to q errors.StackOverflow
  pub full : to.regs 4 < 4096 → owns_context (body_in h.bodies c.0) ≡ true → IsCostly h to (context_words h c.0) → IsError z h s b n node args name met r to q errors.StoreFull

abbrev pub MethodsAreRefused : Type 0
MethodsAreRefused = (z : Sense) (h : Host) (s : State) (b n : ℕ) (node : Node) (args name : ℕ) (met : Met) (r : RunsAt h b n node) (to : MachineState) (q : IsMessaged z h s b n node args name met r to) → StandsFor z h s → CanGo h
    → (o : ℕ) (c : BodyId) → met ≡ Holds o (Method c) → o < length s.things → MethodRefused z h s b n node args name met r to q c

-- Where a block's own method is met: no frame of the activity has the mark; one has it, and 4096 activations are there; or fewer are, and a context
-- can't be paid.
pub record BlockRefused (z : Sense) (h : Host) (s : State) (b n : ℕ) (node : Node) (args name : ℕ) (met : Met) (r : RunsAt h b n node) (to : MachineState) (q : IsMessaged z h s b n node args name met r to) (block : BodyId) : Type 0 where
  pub gone : is_live to ≡ false → IsError z h s b n node args name met r to q errors.NonLifoBlock
  pub overflow : is_live to ≡ true → 4096 ≤ to.regs 4 → IsError z h s b n node args name met r to q errors.StackOverflow
  pub full : is_live to ≡ true → to.regs 4 < 4096 → owns_context (body_in h.bodies block.0) ≡ true → IsCostly h to (context_words h block.0) → IsError z h s b n node args name met r to q errors.StoreFull

abbrev pub BlocksAreRefused : Type 0
BlocksAreRefused = (z : Sense) (h : Host) (s : State) (b n : ℕ) (node : Node) (args name : ℕ) (met : Met) (r : RunsAt h b n node) (to : MachineState) (q : IsMessaged z h s b n node args name met r to) → StandsFor z h s → CanGo h
    → (o : ℕ) (c block : BodyId) (maker : ℕ) → met ≡ Holds o (Method c) → length s.things ≤ o → q.message.receiver ≡ values.Block block maker → BlockRefused z h s b n node args name met r to q block
