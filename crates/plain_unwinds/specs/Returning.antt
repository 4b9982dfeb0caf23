-- Returns from a home method, in plain code.
use Rattle.std.specs.Prelude.{◌≡◌, ℕ, ◌+◌, ◌-◌, ◌≤◌, [], Some, slice_get}
use Rattle.self_terms.specs.declared.nodes.Node.TheVariants as nodes
use Rattle.self_terms.specs.Depths.{depth_from}
use Rattle.sparc_store.specs.Words.{word_at}
use Rattle.source_model.specs.Soundness.{body_in}
use Rattle.source_model.specs.State.{State}
use Rattle.source_model.specs.Step.{step}
use Rattle.frame_walk.specs.Places.{pending_offset}
use Rattle.raw_steps.specs.Stands.{Sense}
use Rattle.plain_words.specs.Moves.{Asks}
use Rattle.plain_words.specs.Units.{frame_locals}
use Rattle.plain_runs.specs.Host.{Host}
use Rattle.plain_runs.specs.declared.status.Status.TheVariants.{Answered}
use Rattle.plain_runs.specs.Sound.{RunsAt, IsHosted}
use Rattle.plain_runs.specs.Course.{with_machine, CanGo, AllRun}
use Rattle.plain_steps.specs.Steps.{StandsFor, DoesStep}
use Rattle.plain_unwinds.specs.Services.{unwinds}

-- The words of a return from a home method have led to service 4, at an address: its value, the youngest pending one, is in %o0.
pub record AsksHome (h : Host) (b n : ℕ) : Type 0 where
  pub at : ℕ
  pub asks :
      Asks h.machine 4 at (word_at h.machine.memory (h.machine.regs 14 + pending_offset (frame_locals (body_in h.bodies b)) (depth_from 0 (body_in h.bodies b).nodes n - 1)))
      (frame_locals (body_in h.bodies b)) (depth_from 0 (body_in h.bodies b).nodes n - 1 + 1) 0

abbrev pub HomeReturnsAsk : Type 0
HomeReturnsAsk = (h : Host) (b n : ℕ) → RunsAt h b n nodes.NonLocal → CanGo h → AsksHome h b n

-- The activity of a host has answered, and machine and host stand for the state after the step, which counts one step more.
pub record HasAnswered (h : Host) (s : State) : Type 0 where
  pub word : ℕ
  pub answered : slice_get h.statuses h.current ≡ Some (Answered word)
  pub hosted : IsHosted h
  pub sense : Sense
  pub stands : StandsFor sense h (step s).state
  pub counted : (step s).state.steps ≡ s.steps + 1
  pub silent : (step s).out ≡ []

-- The words behind the service, in the home's caller, do the source's step; or the home was the oldest activation.
pub data Unwinds (z : Sense) (h : Host) (s : State) : Type 0 where
  GoesOn : DoesStep z h s → Unwinds z h s
  Answers : HasAnswered h s → Unwinds z h s

-- so it is after the service, whatever it leaves of goal and plain cost
abbrev pub HomeReturns : Type 0
HomeReturns = (z : Sense) (h : Host) (s : State) (b n : ℕ) → StandsFor z h s → RunsAt h b n nodes.NonLocal → CanGo h → (q : AsksHome h b n)
    → (goal cost : ℕ) → goal ≤ 1000000000 → Unwinds z (unwinds goal cost (with_machine h q.asks.to)) s

-- What the service leaves: what is left of the goal and of the plain cost in their places, with the step counted in the host's sum; the heap's top and
-- what was paid; the current activity and the bodies.
pub record Leaves (goal cost : ℕ) (h to : Host) (s : State) : Type 0 where
  pub goal_is : word_at to.machine.memory 0x30000000 ≡ goal
  pub left_is : word_at to.machine.memory 0x30000004 ≡ cost
  pub top : to.machine.regs 6 ≡ h.machine.regs 6
  pub settled : to.machine.regs 3 ≡ 0
  pub sum : to.cost ≡ h.cost + h.machine.regs 3
  pub steps_are : to.steps ≡ s.steps + 1
  pub current : to.current ≡ h.current
  pub runs : AllRun to

abbrev pub HomesLeave : Type 0
HomesLeave = (z : Sense) (h : Host) (s : State) (b n : ℕ) → StandsFor z h s → RunsAt h b n nodes.NonLocal → CanGo h → (q : AsksHome h b n)
    → (goal cost : ℕ) → goal ≤ 1000000000 → Leaves goal cost h (unwinds goal cost (with_machine h q.asks.to)) s
