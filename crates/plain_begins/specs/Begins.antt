-- An activity of a method begins.
use Rattle.std.specs.Prelude.{◌≡◌, ◌≢◌, ℕ, ◌+◌, ◌*◌, ◌<◌, false, [], ◌∷◌, ◌++◌, length, Some, None, Ok, slice_get}
use Rattle.self_terms.specs.declared.nodes.Node.{Node}
use Rattle.self_terms.specs.declared.values.BodyId.{BodyId}
use Rattle.self_terms.specs.declared.values.Value.TheVariants as values
use Rattle.sparc_store.specs.Words.{word_at}
use Rattle.source_model.specs.Script.{with_activity}
use Rattle.source_model.specs.Sends.{begun, enters}
use Rattle.source_model.specs.Soundness.{body_in}
use Rattle.source_model.specs.State.{State, silent}
use Rattle.heap_cells.specs.Standing.{Grows}
use Rattle.frame_walk.specs.Raw.{Thread, Going, Raw, IsFree}
use Rattle.raw_steps.specs.Fixed.{IsFixed}
use Rattle.raw_steps.specs.Meeting.{HasCore}
use Rattle.raw_steps.specs.Sends.{Entry, RawEntry, IsEntry, plain_frame, begins as begun_by}
use Rattle.raw_steps.specs.Stands.{Sense, Stands, HasMaker, makes_blocks}
use Rattle.plain_words.specs.Units.{owns_context}
use Rattle.plain_runs.specs.Host.{Host}
use Rattle.plain_runs.specs.declared.status.Status.TheVariants.{Waiting}
use Rattle.plain_runs.specs.Units.{HasUnit}
use Rattle.plain_runs.specs.Services.{begins}
use Rattle.plain_runs.specs.Sound.{RunsAt, IsHosted}
use Rattle.plain_runs.specs.Course.{AllRun}
use Rattle.plain_steps.specs.Steps.{StandsFor}

-- Over raw activations.

-- one more activity, which is the current one
abbrev pub with_thread : Raw → Thread → Raw
with_thread r t = record r { threads = r.threads ++ t ∷ []; current = length r.threads }

-- The entry begins an activity, which is a state; and the raw state whose new activity is the frame of the entry stands for it, all that stood
-- for a value still doing so.
pub record RawBegun (z : Sense) (r : Raw) (s : State) (e : Entry) (x : RawEntry) (mark : ℕ) : Type 0 where
  pub state : State
  pub entered : enters (begun_by s e) [] (with_activity s) ≡ Ok (silent state)
  pub sense : Sense
  pub stands : Stands sense (with_thread r (Going (plain_frame x mark ∷ []))) state
  pub core : HasCore (with_thread r (Going (plain_frame x mark ∷ []))) state sense
  pub grows : Grows z.cells sense.cells z.places sense.places
  pub fixed : IsFixed s state

-- so it is for an entry of a body without a block literal of its own, by a mark that no frame has
abbrev pub RawBegins : Type 0
RawBegins = (z : Sense) (r : Raw) (s : State) → Stands z r s → HasCore r s z → (e : Entry) (x : RawEntry) (mark : ℕ) → IsEntry s z e x → HasMaker [] e.maker → makes_blocks s e.body ≡ false
    → IsFree r.threads mark → mark ≢ 0 → RawBegun z r s e x mark

-- In words.

-- machine and host have as many activities as the state
abbrev pub ActivitiesAgree : Type 0
ActivitiesAgree = (z : Sense) (h : Host) (s : State) → StandsFor z h s → length h.statuses ≡ length s.activities

-- The current activity is at a poll; or there is none, or it has ended.
pub data CanPark (h : Host) : Type 0 where
  AtPoll : (b n : ℕ) (node : Node) → RunsAt h b n node → CanPark h
  Idle : ((sp pc count : ℕ) → slice_get h.statuses h.current ≢ Some (Waiting sp pc count)) → CanPark h

-- The activity has begun: machine and host stand for the state that the source enters, at the poll of the first node. What was left of the
-- goal and of the plain cost still stands there, no step is counted, and what was put at the heap's top is paid for.
pub record Began (z : Sense) (h to : Host) (s : State) (o : ℕ) (c : BodyId) : Type 0 where
  pub hosted : IsHosted to
  pub all : AllRun to
  pub current : to.current < 4
  pub goal : word_at to.machine.memory 0x30000000 ≡ word_at h.machine.memory 0x30000000
  pub left : word_at to.machine.memory 0x30000004 ≡ word_at h.machine.memory 0x30000004
  pub counted : to.machine.regs 2 ≡ h.machine.regs 2
  pub sum : to.cost ≡ h.cost
  pub paid : to.machine.regs 6 + 4 * h.machine.regs 3 ≡ h.machine.regs 6 + 4 * to.machine.regs 3
  pub first : Node
  pub runs : RunsAt to c.0 0 first
  pub state : State
  pub entered : enters (begun s c.0 (values.Object 0) o None []) [] (with_activity s) ≡ Ok (silent state)
  pub sense : Sense
  pub stands : StandsFor sense to state

-- Where the current activity can be parked and a stack is left, the host so begins an activity of a method of an object, for the lobby, whose
-- unit stands at an address, and which has nodes, no arguments and no block literal of its own.
abbrev pub ActivitiesBegin : Type 0
ActivitiesBegin = (z : Sense) (h : Host) (s : State) → StandsFor z h s → IsHosted h → AllRun h → CanPark h → length h.statuses < 4
    → (o : ℕ) (c : BodyId) (holder lobby at : ℕ) → slice_get z.places.objects o ≡ Some holder → slice_get z.places.objects 0 ≡ Some lobby → HasUnit h c.0 at
    → owns_context (body_in h.bodies c.0) ≡ false → length (body_in h.bodies c.0).arguments ≡ 0 → 0 < length (body_in h.bodies c.0).nodes
    → Began z h (begins c.0 at lobby holder h) s o c
