-- Services 4 and 8 where activations have contexts.
use Rattle.std.specs.Prelude.{ℕ, ◌+◌, ◌-◌, ◌<◌, nat_lt, if◌then◌else◌}
use Rattle.self_terms.specs.declared.nodes.Place.{Place}
use Rattle.self_terms.specs.declared.errors.ErrorName.{ErrorName}
use Rattle.sparc_store.specs.Windows.{CanFlush, flushed, resumed, saved_at}
use Rattle.sparc_machine.specs.State.{MachineState, put, stack_of, with_stack}
use Rattle.plain_runs.specs.Host.{Host}
use Rattle.plain_runs.specs.Services.{settled, answered, fails}
use Rattle.plain_unwinds.specs.Frames.{frame_behind, contexts_at, ending_at, with_all_cleared, AreWalked}

-- the windows of the current activity are flushed
abbrev pub written : Host → Host
written h = record h { machine = with_stack h.machine (flushed (stack_of h.machine)) }

-- the frame marks of the contexts of its youngest activations, so many of them, become 0, where its windows were flushed
abbrev pub unmarked : ℕ → Host → Host
unmarked n h = record h { machine = record h.machine { memory = with_all_cleared h.machine.memory (contexts_at h.machine.memory n (h.machine.regs 14)) } }

-- So it may be done: the windows may be flushed, and the frames of the current activity, of which there is one at least, may then be walked.
pub record CanUnwind (h : Host) : Type 0 where
  pub flushes : CanFlush (stack_of h.machine)
  pub some : 0 < (written h).machine.regs 4
  pub walked : AreWalked (written h).machine.memory ((written h).machine.regs 4) ((written h).machine.regs 14)

-- Service 8, an error: all activations of the current activity end, and it has failed.
abbrev pub fails_unmarked : ℕ → ℕ → ErrorName → Place → Host → Host
fails_unmarked goal cost e p h =
    let w = written h in
    fails goal cost e p (unmarked (w.machine.regs 4) w)

-- Service 4, a return from a home method, with the answer in %o0.

-- how many activations that are older than the youngest end with the home's; and where the home's frame begins
abbrev pub ended_older : Host → ℕ
ended_older h =
    let first = saved_at h.machine.memory (h.machine.regs 14) in
    ending_at h.machine.memory (h.machine.regs 4 - 1) (first 14) (first 0)

abbrev pub home_at : Host → ℕ
home_at h = frame_behind h.machine.memory (ended_older h) (h.machine.regs 14)

-- a frame is taken up from an address, goes on at another, and has the answer; so many activations are left
abbrev pub taken_up_with : ℕ → ℕ → ℕ → MachineState → MachineState
taken_up_with at pc left m = record (put (put (with_stack m (resumed (stack_of m) at)) 8 (m.regs 8)) 4 left) { pc = pc; npc = pc + 4 }

-- the home's caller goes on with the answer, and a step is done
abbrev pub returns_to : ℕ → ℕ → ℕ → Host → Host
returns_to at pc left h = record h { machine = taken_up_with at pc left h.machine; steps = h.steps + 1 }

-- where the home is the oldest activation, the activity has answered
abbrev pub answers_from_home : Host → Host
answers_from_home h = answered (record h { steps = h.steps + 1 })

-- what the service does once the windows were flushed
abbrev pub unwound : ℕ → ℕ → Host → Host
unwound goal cost w =
    let ended = ended_older w + 1 in
    let home = saved_at w.machine.memory (home_at w) in
    let s = settled goal cost (unmarked ended w) in
    if nat_lt ended (w.machine.regs 4) then returns_to (home 14) (home 15 + 8) (w.machine.regs 4 - ended) s else answers_from_home s

abbrev pub unwinds : ℕ → ℕ → Host → Host
unwinds goal cost h = unwound goal cost (written h)
