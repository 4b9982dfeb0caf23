-- What holds before a run of words, and after the services that settle it.
use Rattle.std.specs.Prelude.{◌≡◌, ℕ, ◌+◌, ◌-◌, ◌<◌, ◌≤◌}
use Rattle.self_terms.specs.declared.nodes.Node.{Node}
use Rattle.self_terms.specs.declared.nodes.Selector.{Selector}
use Rattle.sparc_store.specs.Words.{word_at}
use Rattle.sparc_machine.specs.State.{MachineState}
use Rattle.source_model.specs.State.{State}
use Rattle.source_model.specs.Step.{step}
use Rattle.raw_steps.specs.Stands.{Sense}
use Rattle.plain_words.specs.Going.{IsTrap}
use Rattle.plain_words.specs.Moves.{Moved}
use Rattle.plain_runs.specs.Host.{Host}
use Rattle.plain_runs.specs.Services.{settled, data_answers, waits, ends}
use Rattle.plain_runs.specs.Sound.{RunsAt, IsHosted}
use Rattle.plain_runs.specs.Course.{with_machine, AllRun, CanGo}
use Rattle.plain_steps.specs.Steps.{StandsFor, DoesStep, EndsActivity}
use Rattle.plain_sends.specs.Sends.{IsSent}

-- The host is sound, and what it and its machine show stands for a state.
pub record IsSound (z : Sense) (h : Host) (s : State) : Type 0 where
  pub hosted : IsHosted h
  pub runs : AllRun h
  pub current : h.current < 4
  pub stands : StandsFor z h s

-- So it is, and the machine is at the poll of a node.
pub record IsOn (z : Sense) (h : Host) (s : State) : Type 0 where
  pub sound : IsSound z h s
  pub body : ℕ
  pub number : ℕ
  pub node : Node
  pub at : RunsAt h body number node

-- what is left of the goal
abbrev pub left_of : Host → ℕ
left_of h = word_at h.machine.memory 0x30000000 - h.machine.regs 2

-- So it is, and so much is left of the goal.
pub record IsSet (z : Sense) (h : Host) (s : State) (left : ℕ) : Type 0 where
  pub on : IsOn z h s
  pub left_is : left_of h ≡ left

-- A step in words leads to a poll again. What is left of the goal is what was left of it when the host's sums were settled, but for the steps
-- since.
abbrev pub StepsGoOn : Type 0
StepsGoOn = (z : Sense) (h : Host) (s : State) → AllRun h → h.current < 4 → (d : DoesStep z h s) → IsSet d.sense (with_machine h d.to) (step s).state (h.steps + word_at h.machine.memory 0x30000000 - (s.steps + 1))

-- So does a send that data answers, with the new goal that its service gave.
abbrev pub AnswersGoOn : Type 0
AnswersGoOn = (z : Sense) (h : Host) (s : State) (b n : ℕ) (node : Node) (sel : Selector) (r : RunsAt h b n node) (q : IsSent z h s b n node sel r) → StandsFor z h s → CanGo h
    → (goal cost word : ℕ) → (d : DoesStep z (data_answers goal cost word (with_machine h q.asks.to)) s) → IsSet d.sense (with_machine (data_answers goal cost word (with_machine h q.asks.to)) d.to) (step s).state goal

-- The poll of a node has led to its trap, where nothing was left of the goal: after service 2 the machine is at the poll of that node again,
-- with a new goal, and stands for the same state.
pub record Waits (z : Sense) (h : Host) (s : State) (on : IsOn z h s) (to : MachineState) : Type 0 where
  pub trap : IsTrap 2 to
  pub moved : Moved h.machine to (h.machine.pc + 20) h.machine.memory (h.machine.regs 2)
  pub again : (goal cost : ℕ) → goal ≤ 1000000000 → IsSet z (waits goal cost (with_machine h to)) s goal
  pub there : (goal cost : ℕ) → goal ≤ 1000000000 → RunsAt (waits goal cost (with_machine h to)) on.body on.number on.node

-- A machine that has gone on from a poll to its trap waits so.
abbrev pub PollsWait : Type 0
PollsWait = (z : Sense) (h : Host) (s : State) (to : MachineState) → (on : IsOn z h s) → IsTrap 2 to → Moved h.machine to (h.machine.pc + 20) h.machine.memory (h.machine.regs 2) → Waits z h s on to

-- Settling its counts leaves a host sound, wherever its machine stands.
abbrev pub HostsSettle : Type 0
HostsSettle = (h : Host) → IsHosted h → AllRun h → (goal cost : ℕ) → goal ≤ 1000000000 → IsHosted (settled goal cost h)

-- After service 9 the host stands for the state after the step that ended the activity.
abbrev pub EndsSettle : Type 0
EndsSettle = (z : Sense) (h : Host) (s : State) → IsSound z h s → (e : EndsActivity z h s) → (goal cost : ℕ) → goal ≤ 1000000000 → IsSound e.sense (ends goal cost (with_machine h e.to)) (step s).state
