-- Turns: what each service makes of a run.
use Rattle.std.specs.Prelude.{◌≡◌, ◌≢◌, ◌⊎◌, ℕ, ◌+◌, ◌-◌, ◌*◌, ◌^◌, ◌<◌, ◌≤◌, List, [], Some, None, length, slice_get}
use Rattle.self_terms.specs.declared.errors.ErrorName.{ErrorName}
use Rattle.self_terms.specs.declared.errors.ErrorName.TheVariants as errors
use Rattle.self_terms.specs.declared.nodes.Node.{Node}
use Rattle.self_terms.specs.declared.nodes.Selector.{Selector}
use Rattle.self_terms.specs.declared.values.BodyId.{BodyId}
use Rattle.object_maps.specs.declared.maps.SlotKind.TheVariants.{Assign, Field, Method}
use Rattle.sparc_machine.specs.State.{MachineState}
use Rattle.sparc_store.specs.Words.{Words, HasWord}
use Rattle.slot_lookup.specs.declared.sends.Found.TheVariants.{One}
use Rattle.source_model.specs.Soundness.{body_in, HasBody}
use Rattle.source_model.specs.State.{State}
use Rattle.plain_words.specs.Going.{Goes}
use Rattle.plain_words.specs.Translating.{CanTranslate}
use Rattle.plain_runs.specs.Host.{Host}
use Rattle.plain_runs.specs.declared.status.Status.TheVariants.{Waiting}
use Rattle.plain_runs.specs.Services.{data_answers, assigns, calls, with_unit, waits, ends, next_unit}
use Rattle.plain_runs.specs.Course.{with_machine}
use Rattle.plain_words.specs.Units.{unit_code}
use Rattle.plain_sends.specs.Found.{data_word}
use Rattle.plain_sends.specs.Sends.{selector_of}
use Rattle.plain_answers.specs.Found.{error_of}
use Rattle.plain_answers.specs.Whole.{whole}
use Rattle.plain_lookups.specs.Telling.{MayLook, start_of}
use Rattle.plain_served.specs.Serving.{refusal, MayTestMark}
use Rattle.plain_units.specs.Putting.{IsPut}
use Rattle.plain_unwinds.specs.Services.{CanUnwind, fails_unmarked, unwinds}
use Rattle.plain_stretches.specs.Runs.{RunsTo}
use Rattle.plain_turns.specs.Asking.{count, body_here, node_here, place_here, found_here, behind_poll, goes_back, cost_left}
use Rattle.plain_turns.specs.Rooms.{unmade}
use Rattle.plain_turns.specs.Resting.{Rests, IsGoing, IsAtTrap, HasRun}

-- A run begins: the current activity, which is at a poll, goes on to so many steps more.
abbrev pub RunsBegin : Type 0
RunsBegin = (h : Host) (s : State) (sp pc known : ℕ) → Rests h s → slice_get h.statuses h.current ≡ Some (Waiting sp pc known) → (goal : ℕ) → goal ≤ 1000000000 → IsGoing (goes_back 0 goal (cost_left h) h) s (s.steps + goal) []

-- The machine's run comes to a trap, and no fewer steps are counted there.
pub record Comes (h : Host) (from : State) (target : ℕ) (out : List ℕ) (most : ℕ) (g : IsGoing h from target out) : Type 0 where
  pub trap : ℕ
  pub instructions : ℕ
  pub to : MachineState
  pub runs : RunsTo most instructions trap h.machine to
  pub goes : Goes instructions h.machine to
  pub at : IsAtTrap (with_machine h to) trap from target out
  pub counts : g.state.steps + g.stretch.steps ≤ count (with_machine h to)

abbrev pub RunsCome : Type 0
RunsCome = (h : Host) (from : State) (target : ℕ) (out : List ℕ) (most : ℕ) (g : IsGoing h from target out) → 2 ^ 40 ≤ most → Comes h from target out most g

-- What is so at each trap: there are these services alone; the current activity is one; no more is left than a run may ask for; the plain cost is within
-- its limit; and the current activity may end.
pub record AtTrap (h : Host) (trap target : ℕ) : Type 0 where
  pub service : (trap ≡ 1) ⊎ (trap ≡ 2) ⊎ (trap ≡ 3) ⊎ (trap ≡ 4) ⊎ (trap ≡ 8) ⊎ (trap ≡ 9)
  pub running : h.current < length h.statuses
  pub far : target ≤ count h + 1000000000
  pub near : count h ≤ target + 1
  pub sums : h.cost + h.machine.regs 3 ≤ 4194304
  pub ends : trap ≢ 9 → CanUnwind h
  pub on : trap ≢ 9 → h.machine.npc + 4 < 2 ^ 32
  pub low : h.machine.pc + 8 < 2 ^ 32

abbrev pub TrapsTell : Type 0
TrapsTell = (h : Host) (trap : ℕ) (from : State) (target : ℕ) (out : List ℕ) → IsAtTrap h trap from target out → AtTrap h trap target

-- the next object's number is how many there are
abbrev pub ObjectsCount : Type 0
ObjectsCount = (h : Host) (trap : ℕ) (from : State) (target : ℕ) (out : List ℕ) → (x : IsAtTrap h trap from target out) → length x.state.things ≡ h.next

-- A service has led on, which prints this, and its step, which wasn't counted at the trap, is one that words do before the next.
pub record StepsOn (h to : Host) (from : State) (target : ℕ) (out : List ℕ) : Type 0 where
  pub going : IsGoing to from target out
  pub more : count h < going.state.steps + going.stretch.steps

-- Nothing is left of the goal; or the oldest activation has answered; or a block can't be paid.
abbrev pub GoalsEnd : Type 0
GoalsEnd = (h : Host) (from : State) (target : ℕ) (out : List ℕ) → IsAtTrap h 2 from target out → (20 ≤ h.machine.pc) × ((goal : ℕ) → goal ≤ 1000000000 → HasRun (waits goal (cost_left h) h) from target out)

abbrev pub AnswersEnd : Type 0
AnswersEnd = (h : Host) (from : State) (target : ℕ) (out : List ℕ) → IsAtTrap h 9 from target out → (goal : ℕ) → goal ≤ 1000000000 → HasRun (ends goal (cost_left h) h) from target out

abbrev pub StoresFill : Type 0
StoresFill = (h : Host) (from : State) (target : ℕ) (out : List ℕ) → IsAtTrap h 8 from target out → (goal : ℕ) → goal ≤ 1000000000 → HasRun (fails_unmarked goal (cost_left h) errors.StoreFull (place_here h) h) from target out

-- A return from a home method leads on in the home's caller, or the home was the oldest activation.
pub data ReturnsHome (h to : Host) (from : State) (target : ℕ) (out : List ℕ) : Type 0 where
  GoesOn : StepsOn h to from target out → ReturnsHome h to from target out
  Ends : HasRun to from target out → ReturnsHome h to from target out

-- which of both is so
abbrev pub is_over : Host → Type 0
is_over to = (sp pc known : ℕ) → slice_get to.statuses to.current ≢ Some (Waiting sp pc known)

-- with so much left of the goal that the step counts; by the current activity's status it is told which of both is so
pub record ReturnTurns (h : Host) (from : State) (target : ℕ) (out : List ℕ) : Type 0 where
  pub left : count h < target
  pub on : (sp pc known : ℕ) → slice_get (unwinds (target - count h - 1) (cost_left h) h).statuses h.current ≡ Some (Waiting sp pc known) → StepsOn h (unwinds (target - count h - 1) (cost_left h) h) from target out
  pub over : is_over (unwinds (target - count h - 1) (cost_left h) h) → HasRun (unwinds (target - count h - 1) (cost_left h) h) from target out

abbrev pub ReturnsTurn : Type 0
ReturnsTurn = (h : Host) (from : State) (target : ℕ) (out : List ℕ) → IsAtTrap h 4 from target out → ReturnTurns h from target out

-- Messages.

-- At the trap of a message: the machine stands in the words of a node that sends, of a body; the lookup may be made; and a step is left of the goal.
pub record IsAsked (h : Host) (target room : ℕ) : Type 0 where
  pub node : Node
  pub selector : Selector
  pub node_is : node_here h ≡ Some node
  pub sends : selector_of node ≡ Some selector
  pub body : HasBody h.bodies (body_here h)
  pub may : MayLook h.maps h.machine.memory room (start_of h node)
  pub holder : HasWord (h.machine.regs 14 + 104)
  pub left : count h < target
  pub back : behind_poll selector.args ≤ h.machine.pc

abbrev pub MessagesAsk : Type 0
MessagesAsk = (h : Host) (from : State) (target : ℕ) (out : List ℕ) (room : ℕ) → (x : IsAtTrap h 1 from target out) → h.next ≤ room → IsAsked h target room

abbrev pub DataTurns : Type 0
DataTurns = (h : Host) (from : State) (target : ℕ) (out : List ℕ) (room : ℕ) → IsAtTrap h 1 from target out → h.next ≤ room → (word : ℕ) → data_word (whole h) (found_here room h) ≡ Some word
    → StepsOn h (data_answers (target - count h - 1) (cost_left h) word h) from target out

abbrev pub FieldsAreRead : Type 0
FieldsAreRead = (h : Host) (from : State) (target : ℕ) (out : List ℕ) (room : ℕ) → IsAtTrap h 1 from target out → h.next ≤ room → (holder place : ℕ) → (found_here room h ≡ One holder (Field place)) ⊎ (found_here room h ≡ One holder (Assign place)) → HasWord (holder + 7 + 4 * place)

abbrev pub AssignmentsTurn : Type 0
AssignmentsTurn = (h : Host) (from : State) (target : ℕ) (out : List ℕ) (room : ℕ) → IsAtTrap h 1 from target out → h.next ≤ room → (holder place : ℕ) → found_here room h ≡ One holder (Assign place)
    → StepsOn h (assigns (target - count h - 1) (cost_left h) (holder + 7 + 4 * place) h) from target out

abbrev pub MissesEnd : Type 0
MissesEnd = (h : Host) (from : State) (target : ℕ) (out : List ℕ) (room : ℕ) → IsAtTrap h 1 from target out → h.next ≤ room → (goal : ℕ) (e : ErrorName) → goal ≤ 1000000000 → error_of (found_here room h) ≡ Some e
    → HasRun (fails_unmarked goal (cost_left h) e (place_here h) h) from target out

-- A method that was found has a body; where that has no unit, one is put behind the others, and the node's words begin again.
pub record IsThere (h : Host) (c : BodyId) : Type 0 where
  pub body : HasBody h.bodies c.0
  pub translates : CanTranslate (body_in h.bodies c.0)
  pub entry : ℕ
  pub entry_is : slice_get h.entries (c.0 - 1) ≡ Some entry
  pub low : entry + 4 < 2 ^ 32

abbrev pub MethodsAreThere : Type 0
MethodsAreThere = (h : Host) (from : State) (target : ℕ) (out : List ℕ) (room : ℕ) → IsAtTrap h 1 from target out → h.next ≤ room → (holder : ℕ) (c : BodyId) → found_here room h ≡ One holder (Method c) → IsThere h c

-- the tests of the method of a unit may be made
abbrev pub MarksMayBeTested : Type 0
MarksMayBeTested = (h : Host) (from : State) (target : ℕ) (out : List ℕ) (room : ℕ) → IsAtTrap h 1 from target out → h.next ≤ room → (holder at : ℕ) (c : BodyId) → found_here room h ≡ One holder (Method c) → slice_get h.entries (c.0 - 1) ≡ Some at → at ≢ 0 → MayTestMark h c.0

abbrev pub CallsTurn : Type 0
CallsTurn = (h : Host) (from : State) (target : ℕ) (out : List ℕ) (room : ℕ) → IsAtTrap h 1 from target out → h.next ≤ room → (holder at : ℕ) (c : BodyId) → found_here room h ≡ One holder (Method c)
    → slice_get h.entries (c.0 - 1) ≡ Some at → at ≢ 0 → refusal h c.0 ≡ None → StepsOn h (calls (target - count h) (cost_left h) at holder h) from target out

abbrev pub RefusalsEnd : Type 0
RefusalsEnd = (h : Host) (from : State) (target : ℕ) (out : List ℕ) (room : ℕ) → IsAtTrap h 1 from target out → h.next ≤ room → (goal holder at : ℕ) (c : BodyId) (e : ErrorName) → goal ≤ 1000000000 → found_here room h ≡ One holder (Method c)
    → slice_get h.entries (c.0 - 1) ≡ Some at → at ≢ 0 → refusal h c.0 ≡ Some e → HasRun (fails_unmarked goal (cost_left h) e (place_here h) h) from target out

-- there is room for the unit
abbrev pub UnitsFit : Type 0
UnitsFit = (h : Host) (from : State) (target : ℕ) (out : List ℕ) (room : ℕ) → IsAtTrap h 1 from target out → h.next ≤ room → (holder : ℕ) (c : BodyId) → found_here room h ≡ One holder (Method c)
    → slice_get h.entries (c.0 - 1) ≡ Some 0 → next_unit h + 4 * length (unit_code h.references (body_in h.bodies c.0)) ≤ 0x12000000

-- The unit was put, and the node's words begin again: no fewer steps are counted, and one body fewer has no unit.
pub record BeginsAgain (h to : Host) (from : State) (target : ℕ) (out : List ℕ) : Type 0 where
  pub going : IsGoing to from target out
  pub same : count h ≤ going.state.steps + going.stretch.steps
  pub fewer : unmade to.entries < unmade h.entries

abbrev pub UnitsTurn : Type 0
UnitsTurn = (h : Host) (from : State) (target : ℕ) (out : List ℕ) (room : ℕ) → IsAtTrap h 1 from target out → h.next ≤ room → (a : IsAsked h target room) → (holder : ℕ) (c : BodyId) → found_here room h ≡ One holder (Method c)
    → slice_get h.entries (c.0 - 1) ≡ Some 0 → (memory : Words) → IsPut h c.0 memory
    → BeginsAgain h (goes_back (behind_poll a.selector.args) (target - count h) (cost_left h) (with_unit c.0 memory h)) from target out
