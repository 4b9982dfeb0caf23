-- A method that a message meets is entered, and so is a block.
use Rattle.std.specs.Prelude.{◌≡◌, ℕ, suc, ◌+◌, ◌*◌, ◌^◌, ◌<◌, ◌≤◌, Bool, true, false, List, ◌∷◌, length, Some, slice_get}
use Rattle.self_terms.specs.declared.nodes.Node.{Node}
use Rattle.self_terms.specs.declared.values.BodyId.{BodyId}
use Rattle.self_terms.specs.declared.values.Value.TheVariants as values
use Rattle.self_terms.specs.Depths.{depth}
use Rattle.sparc_machine.specs.State.{MachineState}
use Rattle.source_model.specs.declared.objects.Content.TheVariants.{Method}
use Rattle.source_model.specs.Messages.{Met, Holds}
use Rattle.source_model.specs.Soundness.{body_in}
use Rattle.source_model.specs.State.{State}
use Rattle.frame_walk.specs.Places.{Frame}
use Rattle.raw_steps.specs.Sends.{frame_at, maker_frame}
use Rattle.raw_steps.specs.Stands.{Sense}
use Rattle.plain_words.specs.Showing.{viewed}
use Rattle.plain_words.specs.Units.{owns_context, of_block, frame_locals}
use Rattle.plain_runs.specs.Host.{Host, raw_of}
use Rattle.plain_runs.specs.Units.{HasUnit}
use Rattle.plain_runs.specs.Sound.{RunsAt, callers_of}
use Rattle.plain_runs.specs.Course.{with_machine, CanGo}
use Rattle.plain_runs.specs.Services.{calls}
use Rattle.plain_steps.specs.Steps.{StandsFor, DoesStep}
use Rattle.plain_sends.specs.Messages.{IsMessaged}

-- the words of a context of an activation of a body
abbrev pub context_words : Host → ℕ → ℕ
context_words h b = 4 + (length (body_in h.bodies b).arguments + length (body_in h.bodies b).locals)

-- There is a map of contexts, with a number that fits a word, and room for one of a body, in the heap and in what is left of the plain cost.
pub record HasSpace (h : Host) (b : ℕ) : Type 0 where
  pub mapped : h.references.contexts < length h.maps
  pub small : h.references.contexts < 2 ^ 30
  pub room : h.machine.regs 6 + 4 * context_words h b ≤ 0x20000000 + 46137344
  pub paid : h.cost + h.machine.regs 3 + context_words h b ≤ 4194304

-- so it is where the activations of the body have contexts
abbrev pub CanKeep : Bool → Host → ℕ → Type 0
CanKeep false h b = Unit {0}
CanKeep true h b = HasSpace h b

-- A body can be entered, whose unit stands at an address, for a message with so many arguments: an activity has room for one more activation, and
-- the heap for its context, if it has one.
pub record IsOpen (h : Host) (b at args older : ℕ) (block : Bool) : Type 0 where
  pub unit : HasUnit h b at
  pub kind : of_block (body_in h.bodies b) ≡ block
  pub some : 0 < length (body_in h.bodies b).nodes
  pub same : length (body_in h.bodies b).arguments ≡ args
  pub few : suc older < 4096
  pub keeps : CanKeep (owns_context (body_in h.bodies b)) h b

-- Where the message meets a method of an object, the words of its entry do the source's step, whatever the service leaves of goal and plain cost.
abbrev pub MethodsAreEntered : Type 0
MethodsAreEntered = (z : Sense) (h : Host) (s : State) (b n : ℕ) (node : Node) (args name : ℕ) (met : Met) (r : RunsAt h b n node) (to : MachineState) (q : IsMessaged z h s b n node args name met r to) → StandsFor z h s → CanGo h
    → (o : ℕ) (c : BodyId) (holder at : ℕ) → met ≡ Holds o (Method c) → o < length s.things → slice_get z.places.objects o ≡ Some holder → IsOpen h c.0 at args r.view.older false
    → (goal cost : ℕ) → goal ≤ 1000000000 → DoesStep z (calls goal cost at holder (with_machine h to)) s

-- the frames of the current activity, while the youngest waits for the answer to its message
abbrev pub frames_waiting : (z : Sense) (h : Host) (s : State) (b n : ℕ) (node : Node) (args name : ℕ) (met : Met) (r : RunsAt h b n node) (to : MachineState) → IsMessaged z h s b n node args name met r to → List Frame
frames_waiting z h s b n node args name met r to q =
    let f = viewed h.machine b n (frame_locals (body_in h.bodies b)) (depth (body_in h.bodies b).nodes n) in
    frame_at f.next q.words.rest f ∷ callers_of h r.view.older

-- Where it is for a block and meets its own method, and the mark of the block's context is that of a frame of the activity, those of the block's
-- entry do so.
abbrev pub BlocksAreEntered : Type 0
BlocksAreEntered = (z : Sense) (h : Host) (s : State) (b n : ℕ) (node : Node) (args name : ℕ) (met : Met) (r : RunsAt h b n node) (to : MachineState) (q : IsMessaged z h s b n node args name met r to) → StandsFor z h s → CanGo h
    → (o : ℕ) (c block : BodyId) (maker holder at : ℕ) → met ≡ Holds o (Method c) → length s.things ≤ o → q.message.receiver ≡ values.Block block maker
    → (y : Frame) → maker_frame (raw_of h).mem q.words (frames_waiting z h s b n node args name met r to q) ≡ Some y → IsOpen h block.0 at args r.view.older true
    → (goal cost : ℕ) → goal ≤ 1000000000 → DoesStep z (calls goal cost at holder (with_machine h to)) s
