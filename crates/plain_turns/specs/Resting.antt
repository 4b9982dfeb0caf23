-- A session between commands, and in the middle of a run.
use Rattle.std.specs.Prelude.{◌≡◌, ℕ, ◌+◌, ◌-◌, ◌≤◌, ◌<◌, ◌++◌, List}
use Rattle.sparc_machine.specs.State.{MachineState}
use Rattle.source_model.specs.Formed.{IsWellFormed}
use Rattle.source_model.specs.State.{State, silent}
use Rattle.source_model.specs.Step.{run}
use Rattle.raw_steps.specs.Stands.{Sense}
use Rattle.plain_words.specs.Going.{IsTrap}
use Rattle.plain_runs.specs.Host.{Host}
use Rattle.plain_runs.specs.Course.{with_machine, AllRun}
use Rattle.plain_steps.specs.Paying.{IsPaid, HasMaps}
use Rattle.plain_begins.specs.Begins.{CanPark}
use Rattle.plain_stretches.specs.Printing.{printed}
use Rattle.plain_stretches.specs.Standing.{IsSound, IsOn, left_of}
use Rattle.plain_stretches.specs.Stretches.{AreFit, Stretch, Halts}
use Rattle.plain_turns.specs.Rooms.{HasRoom}

-- What stays so through all commands: each body fits, there is room for the units of all, and units know the maps of contexts and blocks.
pub record IsReady (h : Host) : Type 0 where
  pub fit : AreFit h
  pub room : HasRoom h
  pub maps : HasMaps h

-- Between commands machine and host stand for a well-formed state; the current activity is at a poll, or none runs; and the heap's room is paid for
-- from a place on.
pub record Rests (h : Host) (s : State) : Type 0 where
  pub sense : Sense
  pub sound : IsSound sense h s
  pub parks : CanPark h
  pub formed : IsWellFormed s
  pub ready : IsReady h
  pub start : ℕ
  pub paid : IsPaid start h

-- In the middle of a run from a state, which is to end at a count of steps: some were done, and words lead on from there to a trap. By then all
-- this was printed.
pub record IsGoing (h : Host) (from : State) (target : ℕ) (out : List ℕ) : Type 0 where
  pub sense : Sense
  pub state : State
  pub done : ℕ
  pub before : List ℕ
  pub runs : run done (silent from) ≡ printed state before
  pub counted : state.steps ≡ from.steps + done
  pub all : AllRun h
  pub current : h.current < 4
  pub formed : IsWellFormed state
  pub ready : IsReady h
  pub start : ℕ
  pub left : ℕ
  pub near : left ≤ 1000000000
  pub left_is : state.steps + left ≡ target
  pub stretch : Stretch start sense h state left
  pub out_is : out ≡ before ++ stretch.out

-- Its machine has come from a node's poll, where it was this, to a trap.
pub record IsAtTrap (h : Host) (trap : ℕ) (from : State) (target : ℕ) (out : List ℕ) : Type 0 where
  pub sense : Sense
  pub state : State
  pub done : ℕ
  pub runs : run done (silent from) ≡ printed state out
  pub counted : state.steps ≡ from.steps + done
  pub last : MachineState
  pub on : IsOn sense (with_machine h last) state
  pub formed : IsWellFormed state
  pub ready : IsReady h
  pub start : ℕ
  pub paid : IsPaid start (with_machine h last)
  pub near : left_of (with_machine h last) ≤ 1000000000
  pub left_is : state.steps + left_of (with_machine h last) ≡ target
  pub stands : IsTrap trap h.machine
  pub halts : Halts sense (with_machine h last) state on trap h.machine

-- The run is done, or the activity has ended before; this was printed.
pub record HasRun (h : Host) (from : State) (target : ℕ) (out : List ℕ) : Type 0 where
  pub state : State
  pub runs : run (target - from.steps) (silent from) ≡ printed state out
  pub rests : Rests h state
