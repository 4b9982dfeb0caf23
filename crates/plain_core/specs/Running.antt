-- A run of so many steps.
use Rattle.std.specs.Prelude.{◌≡◌, ℕ, ◌+◌, ◌*◌, ◌^◌, ◌≤◌, List, Option, Some, slice_get}
use Rattle.io_ports.specs.Causes.{Takes, TakesFront}
use Rattle.source_model.specs.State.{State, silent}
use Rattle.source_model.specs.Step.{run}
use Rattle.plain_runs.specs.Host.{Host}
use Rattle.plain_runs.specs.declared.status.Status.TheVariants.{Waiting}
use Rattle.plain_turns.specs.Events.{Reaches}
use Rattle.plain_turns.specs.Resting.{Rests, HasRun}
use Rattle.plain_turns.specs.Rooms.{unmade}
use Rattle.plain_core.specs.Language.{Language, IsSpoken}
use Rattle.plain_core.specs.declared.running.Counts.{Counts}

-- Machine and host stand for some state of the session, and the current activity can go on.
pub record CanRun (l : Language) (h : Host) : Type 0 where
  pub state : State
  pub rests : Rests h state
  pub spoken : IsSpoken l state
  pub sp : ℕ
  pub pc : ℕ
  pub known : ℕ
  pub waits : slice_get h.statuses h.current ≡ Some (Waiting sp pc known)

-- From whatever state of the session machine and host stand for, they have run so many steps on, and stand for what the source then has; the sink took
-- just what the source prints on the way. They got there by instructions and services alone, just as many of each as were counted.
pub record HasRunOn (n : ℕ) (c : Counts) (l : Language) (h to : Host) (old new : Option (List ℕ)) : Type 0 where
  pub said : List ℕ
  pub takes : Takes old new said
  pub runs : (s : State) → Rests h s → IsSpoken l s → HasRun to s (s.steps + n) said
  pub reached : Reaches h c.instructions c.services to

-- The run broke off: a front of what the source prints was taken.
abbrev pub HasBroken : ℕ → Language → Host → Option (List ℕ) → Option (List ℕ) → Type 0
HasBroken n l h old new = (s : State) → Rests h s → IsSpoken l s → TakesFront old new (run n (silent s)).out

-- no run takes more
pub record IsFew (c : Counts) : Type 0 where
  pub instructions : c.instructions ≤ 2 ^ 70
  pub services : c.services ≤ 2 ^ 30

-- It gave a service for each step, each unit that it put, and four more; and did at most 2^40 instructions for each.
pub record HasSpent (n : ℕ) (c : Counts) (h to : Host) : Type 0 where
  pub services : c.services + unmade to.entries ≤ n + 4 + unmade h.entries
  pub instructions : c.instructions ≤ 2 ^ 40 * c.services
