-- A stretch: how words go on to the next trap.
use Rattle.std.specs.Prelude.{◌≡◌, ℕ, suc, ◌+◌, ◌*◌, ◌^◌, ◌<◌, ◌≤◌, Bool, List, [], ◌++◌, Some}
use Rattle.self_terms.specs.declared.names.Name.{Name}
use Rattle.self_terms.specs.declared.nodes.Node.TheVariants as nodes
use Rattle.self_terms.specs.declared.nodes.Selector.{Selector}
use Rattle.self_terms.specs.declared.values.BodyId.{BodyId}
use Rattle.sparc_store.specs.Words.{word_at}
use Rattle.sparc_machine.specs.State.{MachineState}
use Rattle.source_model.specs.Formed.{IsWellFormed}
use Rattle.source_model.specs.State.{State, silent}
use Rattle.source_model.specs.Soundness.{HasBody, IsFit}
use Rattle.source_model.specs.Step.{step, run}
use Rattle.raw_steps.specs.Stands.{Sense}
use Rattle.plain_words.specs.Going.{Goes, IsTrap}
use Rattle.plain_runs.specs.Host.{Host}
use Rattle.plain_runs.specs.Sound.{RunsAt}
use Rattle.plain_runs.specs.Course.{with_machine, CanGo, AllRun}
use Rattle.plain_steps.specs.Steps.{DoesStep, EndsActivity}
use Rattle.plain_steps.specs.Paying.{IsPaid, HasMaps}
use Rattle.plain_sends.specs.Sends.{selector_of, IsSent}
use Rattle.plain_prims.specs.Asking.{IsPerformed}
use Rattle.plain_prims.specs.Performing.{DoesPrint}
use Rattle.plain_contexts.specs.Literals.{IsFullHere}
use Rattle.plain_unwinds.specs.Returning.{AsksHome}
use Rattle.plain_stretches.specs.Printing.{printed}
use Rattle.plain_stretches.specs.Runs.{RunsTo}
use Rattle.plain_stretches.specs.Standing.{IsOn, IsSet, Waits, left_of}

-- each body fits
abbrev pub AreFit : Host → Type 0
AreFit h = (n : ℕ) → HasBody h.bodies n → IsFit h.bodies n

-- A node that sends has led to service 1.
pub record Sends (z : Sense) (h : Host) (s : State) (on : IsOn z h s) (to : MachineState) : Type 0 where
  pub can : CanGo h
  pub selector : Selector
  pub is : selector_of on.node ≡ Some selector
  pub sent : IsSent z h s on.body on.number on.node selector on.at
  pub there : to ≡ sent.asks.to

-- A primitive has led to service 3.
pub record Performs (z : Sense) (h : Host) (s : State) (on : IsOn z h s) (to : MachineState) : Type 0 where
  pub can : CanGo h
  pub name : Name
  pub args : ℕ
  pub implied : Bool
  pub handler : Bool
  pub is : on.node ≡ nodes.Prim name args implied handler
  pub at : RunsAt h on.body on.number (nodes.Prim name args implied handler)
  pub performed : IsPerformed z h s on.body on.number name args implied handler at
  pub there : to ≡ performed.asks.to

-- A return from a home method has led to service 4.
pub record GoesHome (z : Sense) (h : Host) (s : State) (on : IsOn z h s) (to : MachineState) : Type 0 where
  pub can : CanGo h
  pub is : on.node ≡ nodes.NonLocal
  pub at : RunsAt h on.body on.number nodes.NonLocal
  pub asks : AsksHome h on.body on.number
  pub there : to ≡ asks.asks.to

-- A block literal that can't be paid has led to service 8.
pub record Fills (z : Sense) (h : Host) (s : State) (on : IsOn z h s) (to : MachineState) : Type 0 where
  pub can : CanGo h
  pub body : BodyId
  pub is : on.node ≡ nodes.BlockLit body
  pub at : RunsAt h on.body on.number (nodes.BlockLit body)
  pub full : IsFullHere z h s on.body on.number (nodes.BlockLit body) at
  pub there : to ≡ full.full.to

-- A node that ends the oldest activation has led to service 9.
pub record Ends (z : Sense) (h : Host) (s : State) (to : MachineState) : Type 0 where
  pub can : CanGo h
  pub ends : EndsActivity z h s
  pub there : to ≡ ends.to

-- Why the machine of a host, from a node's poll, has come to a trap of a number: nothing was left of the goal, or else for its node.
pub data Halts (z : Sense) (h : Host) (s : State) (on : IsOn z h s) (trap : ℕ) (to : MachineState) : Type 0 where
  AtGoal : trap ≡ 2 → left_of h ≡ 0 → Waits z h s on to → Halts z h s on trap to
  AtSend : trap ≡ 1 → Sends z h s on to → Halts z h s on trap to
  AtPrimitive : trap ≡ 3 → Performs z h s on to → Halts z h s on trap to
  AtHome : trap ≡ 4 → GoesHome z h s on to → Halts z h s on trap to
  AtFull : trap ≡ 8 → Fills z h s on to → Halts z h s on trap to
  AtEnd : trap ≡ 9 → Ends z h s to → Halts z h s on trap to

-- Where the goal is `left` steps away, and the heap's room is paid for from a place on: so many of the source's steps are done by
-- words while this is printed, and lead to the poll of a node, with the rest left of the goal; and from there to a trap. A step takes at most 512
-- instructions.
pub record Stretch (start : ℕ) (z : Sense) (h : Host) (s : State) (left : ℕ) : Type 0 where
  pub steps : ℕ
  pub state : State
  pub out : List ℕ
  pub runs : run steps (silent s) ≡ printed state out
  pub counted : state.steps ≡ s.steps + steps
  pub last : MachineState
  pub sense : Sense
  pub on : IsOn sense (with_machine h last) state
  pub paid : IsPaid start (with_machine h last)
  pub still : left_of (with_machine h last) + steps ≡ left
  pub instructions : ℕ
  pub few : instructions ≤ 512 * (steps + 1)
  pub to : MachineState
  pub goes : Goes instructions h.machine to
  pub trap : ℕ
  pub stands : IsTrap trap to
  pub halts : Halts sense (with_machine h last) state on trap to

-- One that does a step at least, and prints this.
pub record StretchOn (start : ℕ) (z : Sense) (h : Host) (s : State) (left : ℕ) (out : List ℕ) : Type 0 where
  pub stretch : Stretch start z h s left
  pub some : 0 < stretch.steps
  pub prints : stretch.out ≡ out

-- From each poll there is a stretch, where the state is well formed. Words print nothing.
abbrev pub PollsStretch : Type 0
PollsStretch = (start : ℕ) (z : Sense) (h : Host) (s : State) (left : ℕ) → IsWellFormed s → IsSet z h s left → AreFit h → HasMaps h → IsPaid start h → (x : Stretch start z h s left) × (x.out ≡ [])

-- So is there from behind a service whose words do a step, where one is left of the goal; that of a primitive may have printed.
abbrev pub StepsStretch : Type 0
StepsStretch = (start : ℕ) (z : Sense) (h : Host) (s : State) (left : ℕ) → IsWellFormed s → AllRun h → h.current < 4 → AreFit h → HasMaps h → IsPaid start h → DoesStep z h s → h.steps + word_at h.machine.memory 0x30000000 ≡ s.steps + suc left → StretchOn start z h s (suc left) []

abbrev pub PrintsStretch : Type 0
PrintsStretch = (start : ℕ) (z : Sense) (h : Host) (s : State) (out : List ℕ) (left : ℕ) → IsWellFormed s → AllRun h → h.current < 4 → AreFit h → HasMaps h → IsPaid start h → DoesPrint h s out → h.steps + word_at h.machine.memory 0x30000000 ≡ s.steps + suc left → StretchOn start z h s (suc left) out

-- A run of 2 to the 40th instructions or more comes to its trap.
abbrev pub StretchesRun : Type 0
StretchesRun = (start : ℕ) (z : Sense) (h : Host) (s : State) (left : ℕ) → left ≤ 1000000001 → (x : Stretch start z h s left) → (most : ℕ) → 2 ^ 40 ≤ most → RunsTo most x.instructions x.trap h.machine x.to

-- Runs, one behind the other, are one, and print what the one and the other does.
abbrev pub RunsJoin : Type 0
RunsJoin = (a b : ℕ) (s t u : State) (one two : List ℕ) → run a (silent s) ≡ printed t one → run b (silent t) ≡ printed u two → run (a + b) (silent s) ≡ printed u (one ++ two)

-- and so are a run and a step
abbrev pub StepJoins : Type 0
StepJoins = (a : ℕ) (s t u : State) (one two : List ℕ) → run a (silent s) ≡ printed t one → step t ≡ printed u two → run (a + 1) (silent s) ≡ printed u (one ++ two)
