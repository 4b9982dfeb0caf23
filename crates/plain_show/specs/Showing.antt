-- The frames of the current activity, once they stand in memory.
use Rattle.std.specs.Prelude.{◌≡◌, ℕ, List, Some, slice_get}
use Rattle.self_terms.specs.declared.nodes.Node.{Node}
use Rattle.sparc_store.specs.Windows.{flushed}
use Rattle.sparc_machine.specs.State.{stack_of, with_stack}
use Rattle.source_model.specs.Formed.{IsWellFormed}
use Rattle.source_model.specs.State.{Activation, Running, State}
use Rattle.raw_steps.specs.Stands.{Sense, Stands}
use Rattle.session_text.specs.declared.acts.ShownAct.{ShownAct}
use Rattle.session_text.specs.Frames.{shown_of}
use Rattle.shown_frames.specs.Showing.{acts_shown}
use Rattle.plain_runs.specs.Host.{Host, seen, raw_of}
use Rattle.plain_runs.specs.Sound.{RunsAt, IsHosted}
use Rattle.plain_runs.specs.Course.{AllRun, with_machine}

-- Plain code runs, and the current activity is at the poll of a node.
pub record IsAtPoll (h : Host) : Type 0 where
  pub body : ℕ
  pub number : ℕ
  pub node : Node
  pub runs : RunsAt h body number node
  pub hosted : IsHosted h
  pub all : AllRun h

-- the host once the frames of the current activity are all saved
abbrev pub flushed_host : Host → Host
flushed_host h = with_machine h (with_stack h.machine (flushed (stack_of h.machine)))

-- what is shown of the current activity: each value by its word, in memory as it is once the frames are saved
abbrev pub stack_shown : Host → List ShownAct
stack_shown h = acts_shown h.maps h.bodies (flushed_host h).machine.memory (seen h)

-- Where machine and host stand for a state, it is what the source shows of its activations.
abbrev pub StacksShow : Type 0
StacksShow = (z : Sense) (h : Host) (s : State) (all : List Activation) → IsAtPoll h → Stands z (raw_of h) s → h.bodies ≡ s.bodies → IsWellFormed s → slice_get s.activities s.current ≡ Some (Running all)
    → stack_shown h ≡ shown_of all

-- Once the frames are saved, machine and host show what they showed, and go on as they did.
pub record StaysAtPoll (h : Host) : Type 0 where
  pub poll : IsAtPoll (flushed_host h)
  pub raw : raw_of (flushed_host h) ≡ raw_of h

abbrev pub FlushedStay : Type 0
FlushedStay = (h : Host) → IsAtPoll h → StaysAtPoll h
