-- On until the youngest activation is gone, at most so many steps.
use Rattle.std.specs.Prelude.{◌≡◌, ℕ, ◌+◌, ◌*◌, ◌^◌, ◌≤◌, List, Option, Some, slice_get, true, false}
use Rattle.io_ports.specs.Causes.{Takes, TakesFront}
use Rattle.source_model.specs.Lasting.{fewer}
use Rattle.source_model.specs.Script.{finish}
use Rattle.source_model.specs.State.{Activation, Running, State, Reached, silent}
use Rattle.plain_runs.specs.Host.{Host}
use Rattle.plain_runs.specs.declared.status.Status.TheVariants.{Waiting}
use Rattle.plain_turns.specs.Events.{Reaches}
use Rattle.plain_turns.specs.Resting.{Rests}
use Rattle.plain_core.specs.Language.{Language, IsSpoken}
use Rattle.plain_core.specs.declared.running.Counts.{Counts}

-- Machine and host stand for what the source has come to, and this was printed.
pub record HasCome (h : Host) (r : Reached) (out : List ℕ) : Type 0 where
  pub rests : Rests h r.state
  pub printed : r.out ≡ out

-- From whatever state of the session machine and host stand for, whose current activity runs, they have gone on until its youngest activation was gone, at
-- most so many steps, and stand for what the source then has; the sink took just what the source prints on the way. They got there by instructions and
-- services alone, just as many of each as were counted.
pub record HasFinished (n : ℕ) (c : Counts) (l : Language) (h to : Host) (old new : Option (List ℕ)) : Type 0 where
  pub said : List ℕ
  pub takes : Takes old new said
  pub finishes : (s : State) (all : List Activation) → Rests h s → IsSpoken l s → slice_get s.activities s.current ≡ Some (Running all) → HasCome to (finish n all (silent s)) said
  pub reached : Reaches h c.instructions c.services to

-- It broke off: a front of what the source prints was taken.
abbrev pub HasStopped : ℕ → Language → Host → Option (List ℕ) → Option (List ℕ) → Type 0
HasStopped n l h old new = (s : State) (all : List Activation) → Rests h s → IsSpoken l s → slice_get s.activities s.current ≡ Some (Running all) → TakesFront old new (finish n all (silent s)).out

-- it takes no more, however long it goes on
pub record IsFewer (c : Counts) : Type 0 where
  pub instructions : c.instructions ≤ 2 ^ 73
  pub services : c.services ≤ 2 ^ 33

-- The current activity goes on, with as many activations at least. Used by contracts of private functions alone.
pub record IsAsDeep (depth : ℕ) (h : Host) : Type 0 where
  pub sp : ℕ
  pub pc : ℕ
  pub known : ℕ
  pub waits : slice_get h.statuses h.current ≡ Some (Waiting sp pc known)
  pub deep : (s : State) → Rests h s → fewer depth s ≡ false

-- it has fewer, or has ended
abbrev pub IsOver : ℕ → Host → Type 0
IsOver depth h = (s : State) → Rests h s → fewer depth s ≡ true
