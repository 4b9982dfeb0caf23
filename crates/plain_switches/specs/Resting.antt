-- A session rests, and rests again when another activity is the current one.
use Rattle.std.specs.Prelude.{◌≡◌, ◌≢◌, ℕ, ◌+◌, ◌^◌, ◌<◌, length, Some, slice_get}
use Rattle.sparc_store.specs.Words.{word_at}
use Rattle.sparc_store.specs.Windows.{IsPlace}
use Rattle.source_model.specs.Lines.{activity_line}
use Rattle.source_model.specs.Script.{Switch, becomes, command}
use Rattle.source_model.specs.State.{State, Reached}
use Rattle.plain_runs.specs.Host.{Host, raw_of}
use Rattle.plain_runs.specs.declared.status.Status.TheVariants.{Waiting}
use Rattle.plain_stretches.specs.Standing.{IsSound}
use Rattle.plain_turns.specs.Resting.{Rests}
use Rattle.plain_switches.specs.Switching.{switches}

-- the state with another current activity
abbrev pub with_current : ℕ → State → State
with_current k s = record s { current = k }

-- While a session rests, the youngest frame of an activity that waits may be taken up, and its code may go on.
abbrev pub FramesMayComeUp : Type 0
FramesMayComeUp = (h : Host) (s : State) → Rests h s → (k sp pc count : ℕ) → slice_get h.statuses k ≡ Some (Waiting sp pc count) → k ≢ h.current → IsPlace sp × (pc + 4 < 2 ^ 32)

-- The counts of steps and of cost, the heap's top, the next object's number, and what is left of the goal and of the plain cost are as they were.
pub record Switched (h to : Host) : Type 0 where
  pub sum : to.steps ≡ h.steps
  pub counted : to.machine.regs 2 ≡ h.machine.regs 2
  pub costs : to.cost ≡ h.cost
  pub cost : to.machine.regs 3 ≡ h.machine.regs 3
  pub top : to.machine.regs 6 ≡ h.machine.regs 6
  pub next : to.next ≡ h.next
  pub goal : word_at to.machine.memory 0x30000000 ≡ word_at h.machine.memory 0x30000000
  pub left : word_at to.machine.memory 0x30000004 ≡ word_at h.machine.memory 0x30000004

abbrev pub SwitchesCount : Type 0
SwitchesCount = (h : Host) (s : State) (k : ℕ) → Rests h s → k < length h.statuses → Switched h (switches k h)

-- What machine and host show is what they showed, with another current activity.
abbrev pub SwitchesShow : Type 0
SwitchesShow = (h : Host) (s : State) (k : ℕ) → Rests h s → k < length h.statuses → raw_of (switches k h) ≡ record (raw_of h) { current = k }

-- The host is sound, and both stand for the state with that current activity, by the same sense.
abbrev pub SwitchesStand : Type 0
SwitchesStand = (h : Host) (s : State) (k : ℕ) → (r : Rests h s) → k < length h.statuses → IsSound r.sense (switches k h) (with_current k s)

-- It is the state that the source's command comes to.
abbrev pub SwitchesCome : Type 0
SwitchesCome = (h : Host) (q : Reached) (k : ℕ) → Rests h q.state → k < length h.statuses → (stop : ℕ) → command (Switch (k + 1)) stop q ≡ becomes (with_current k q.state) (activity_line (k + 1)) q

-- The session rests again, by the same sense.
pub record RestsAgain (h to : Host) (s : State) (k : ℕ) (r : Rests h s) : Type 0 where
  pub rests : Rests to (with_current k s)
  pub same : rests.sense ≡ r.sense

abbrev pub SwitchesRest : Type 0
SwitchesRest = (h : Host) (s : State) (k : ℕ) → (r : Rests h s) → k < length h.statuses → RestsAgain h (switches k h) s k r
