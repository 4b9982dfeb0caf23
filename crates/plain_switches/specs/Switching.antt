-- Another activity becomes the current one.
use Rattle.std.specs.Prelude.{ℕ, ◌+◌, ◌==◌, if◌then◌else◌, Option, Some, slice_get}
use Rattle.sparc_store.specs.Windows.{resumed}
use Rattle.sparc_machine.specs.State.{MachineState, put, stack_of, with_stack}
use Rattle.plain_runs.specs.Host.{Host}
use Rattle.plain_runs.specs.declared.status.Status.{Status}
use Rattle.plain_runs.specs.declared.status.Status.TheVariants.{Waiting}
use Rattle.plain_runs.specs.Services.{parked}

-- the youngest frame of an activity of so many, which begins at sp, is in view, and its code goes on at pc
abbrev pub in_frame : ℕ → ℕ → ℕ → MachineState → MachineState
in_frame sp pc count m = record (put (with_stack m (resumed (stack_of m) sp)) 4 count) { pc = pc; npc = pc + 4 }

-- that of an activity that waits is
abbrev pub taken_up_by : Option Status → Host → Host
taken_up_by (Some (Waiting sp pc count)) h = record h { machine = in_frame sp pc count h.machine }
taken_up_by _ h = h

-- so it is for the activity of a number, which is the current one
abbrev pub comes_up : ℕ → Host → Host
comes_up k h = record (taken_up_by (slice_get h.statuses k) h) { current = k }

-- The activity of a number is the current one: where it wasn't, the frames of the one that was stand in its stack.
abbrev pub switches : ℕ → Host → Host
switches k h = if k == h.current then h else comes_up k (parked h)
