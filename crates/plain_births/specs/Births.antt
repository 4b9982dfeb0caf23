-- Activities are born while a session rests.
use Rattle.std.specs.Prelude.{◌≡◌, ◌≢◌, ℕ, ◌+◌, ◌-◌, ◌*◌, ◌%◌, ◌^◌, ◌<◌, ◌≤◌, nat_lt, ◌&&◌, Bool, true, false, if◌then◌else◌, List, [], length, Some, None, Ok, slice_get}
use Rattle.self_terms.specs.declared.errors.ErrorName.TheVariants as errors
use Rattle.self_terms.specs.declared.values.BodyId.{BodyId}
use Rattle.self_terms.specs.declared.values.Value.TheVariants as values
use Rattle.sparc_store.specs.Words.{Words}
use Rattle.sparc_store.specs.Windows.{CanFlush}
use Rattle.sparc_machine.specs.State.{stack_of}
use Rattle.source_model.specs.Soundness.{body_in, HasBody}
use Rattle.source_model.specs.Lines.{activity_line}
use Rattle.source_model.specs.Script.{Spawn, becomes, refused, with_activity, command}
use Rattle.source_model.specs.Sends.{begun, enters}
use Rattle.source_model.specs.State.{State, Reached, silent}
use Rattle.source_model.specs.Texts.{error_text}
use Rattle.plain_words.specs.Units.{unit_code, owns_context}
use Rattle.plain_runs.specs.Host.{Host}
use Rattle.plain_runs.specs.declared.status.Status.TheVariants.{Waiting}
use Rattle.plain_runs.specs.Services.{next_unit, with_unit, begins}
use Rattle.plain_answers.specs.Found.{IsMethod}
use Rattle.plain_units.specs.Putting.{IsPut}
use Rattle.plain_evaluates.specs.Evaluates.{context_words}
use Rattle.plain_spawns.specs.Spawns.{begins_with_context}
use Rattle.plain_turns.specs.Rooms.{unmade}
use Rattle.plain_turns.specs.Resting.{Rests}
use Rattle.plain_births.specs.Meeting.{lobby_meets}

-- Units.

-- there is room for the unit of a body that has none
abbrev pub UnitsFitThere : Type 0
UnitsFitThere = (h : Host) (s : State) (c : ℕ) → Rests h s → HasBody h.bodies c → slice_get h.entries (c - 1) ≡ Some 0
    → next_unit h + 4 * length (unit_code h.references (body_in h.bodies c)) ≤ 0x12000000

-- The unit was put: the session rests for the same state, in which what stood for a value still does, and one body fewer has no unit.
pub record Put (h : Host) (s : State) (c : ℕ) (memory : Words) (r : Rests h s) : Type 0 where
  pub rests : Rests (with_unit c memory h) s
  pub same : rests.sense ≡ r.sense
  pub unit : slice_get (with_unit c memory h).entries (c - 1) ≡ Some (next_unit h)
  pub fewer : unmade (with_unit c memory h).entries < unmade h.entries

abbrev pub UnitsRest : Type 0
UnitsRest = (h : Host) (s : State) (c : ℕ) (memory : Words) → (r : Rests h s) → IsPut h c memory → Put h s c memory r

-- Activities.

-- the frames of the current activity, where it runs, may go to memory
abbrev pub FramesMayFlush : Type 0
FramesMayFlush = (h : Host) (s : State) → Rests h s → (sp pc count : ℕ) → slice_get h.statuses h.current ≡ Some (Waiting sp pc count) → CanFlush (stack_of h.machine)

-- The activity has begun: machine and host rest for the state that the source's command comes to.
pub record Born (h to : Host) (q : Reached) (text : List ℕ) (o : ℕ) (c : BodyId) : Type 0 where
  pub state : State
  pub entered : enters (begun q.state c.0 (values.Object 0) o None []) [] (with_activity q.state) ≡ Ok (silent state)
  pub comes : (stop : ℕ) → command (Spawn text) stop q ≡ becomes state (activity_line (state.current + 1)) q
  pub rests : Rests to state

-- The host begins an activity of a body, with a context where its activations have one.
abbrev pub born : ℕ → ℕ → ℕ → ℕ → Host → Host
born b at receiver holder h = if owns_context (body_in h.bodies b) then begins_with_context b at receiver holder h else begins b at receiver holder h

-- its context can't be paid
abbrev pub is_costly : Host → ℕ → Bool
is_costly h b = owns_context (body_in h.bodies b) && nat_lt 4194304 (h.cost + h.machine.regs 3 + context_words h b)

-- So it is where fewer than four activities are there and the lobby's message meets a method without arguments, whose unit stands and whose context, if
-- it has one, can be paid.
abbrev pub BirthsRest : Type 0
BirthsRest = (h : Host) (q : Reached) (text : List ℕ) (holder lobby at : ℕ) (c : BodyId) → (r : Rests h q.state) → length h.statuses < 4 → slice_get h.references.objects 0 ≡ Some lobby
    → (m : IsMethod r.sense q.state (lobby_meets q.state text) holder c) → slice_get h.entries (c.0 - 1) ≡ Some at → at ≢ 0 → length (body_in h.bodies c.0).arguments ≡ 0 → is_costly h c.0 ≡ false
    → Born h (born c.0 at lobby holder h) q text m.object c

-- Where it can't, the command is refused.
abbrev pub BirthsFill : Type 0
BirthsFill = (h : Host) (q : Reached) (text : List ℕ) (holder : ℕ) (c : BodyId) → (r : Rests h q.state) → length h.statuses < 4 → IsMethod r.sense q.state (lobby_meets q.state text) holder c → length (body_in h.bodies c.0).arguments ≡ 0 → is_costly h c.0 ≡ true
    → (stop : ℕ) → command (Spawn text) stop q ≡ refused (error_text errors.StoreFull) q

-- There the words of a context have room in the heap, and in a word of the plain cost.
pub record HasRoomThere (h : Host) (b : ℕ) : Type 0 where
  pub heap : h.machine.regs 6 + 4 * context_words h b ≤ 0x20000000 + 46137344
  pub within : 0x20000000 ≤ h.machine.regs 6
  pub aligned : h.machine.regs 6 % 4 ≡ 0
  pub cost : h.machine.regs 3 + context_words h b < 2 ^ 32

abbrev pub ContextsHaveRoom : Type 0
ContextsHaveRoom = (h : Host) (s : State) (b : ℕ) → Rests h s → owns_context (body_in h.bodies b) ≡ true → is_costly h b ≡ false → HasRoomThere h b
