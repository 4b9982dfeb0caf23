-- What the command `spawn` comes to.
use Rattle.std.specs.Prelude.{◌≡◌, ◌≢◌, ℕ, ◌+◌, ◌-◌, ◌≤◌, List, Some, slice_get, codes}
use Rattle.source_model.specs.Formed.{arity}
use Rattle.source_model.specs.Lines.{activity_line}
use Rattle.source_model.specs.Script.{becomes, refused, spawn}
use Rattle.source_model.specs.State.{State, Reached}
use Rattle.source_model.specs.Texts.{error_text}
use Rattle.plain_runs.specs.Host.{Host}
use Rattle.plain_turns.specs.Resting.{Rests}
use Rattle.plain_births.specs.Meeting.{message}
use Rattle.plain_core.specs.declared.spawning.Birth.{Birth}
use Rattle.plain_core.specs.declared.spawning.Birth.TheVariants.{Begun, Refused, NotAMethod, TooMany}

-- machine and host stand for some state
abbrev pub CanSpawn : Host → Type 0
CanSpawn h = (s : State) × Rests h s

-- An activity has begun: machine and host stand for the state that the command comes to.
pub record HasBegun (to : Host) (q : Reached) (text : List ℕ) : Type 0 where
  pub state : State
  pub rests : Rests to state
  pub comes : spawn text q ≡ becomes state (activity_line (state.current + 1)) q

-- Nothing has changed, and the command is refused for this reason.
pub record IsRefused (why : List ℕ) (h to : Host) (q : Reached) (text : List ℕ) : Type 0 where
  pub same : to ≡ h
  pub refuses : spawn text q ≡ refused why q

abbrev pub Comes : Host → Host → Reached → List ℕ → Birth → Type 0
Comes h to q text Begun = HasBegun to q text
Comes h to q text (Refused e) = IsRefused (error_text e) h to q text
Comes h to q text NotAMethod = IsRefused (codes "not a method") h to q text
Comes h to q text TooMany = IsRefused (codes "too many activities") h to q text

-- Whatever session machine and host stand for, this is what a spawn of the text comes to that has the name, and takes no arguments.
abbrev pub IsBirth : Host → Host → ℕ → Birth → Type 0
IsBirth h to name b = (q : Reached) (text : List ℕ) → Rests h q.state → message q.state text ≡ name → arity text ≡ 0 → Comes h to q text b

-- A body's unit stands at an address, and machine and host stand for what they stood for. Used by contracts of private functions alone.
pub record IsReady (h to : Host) (c at : ℕ) : Type 0 where
  pub rests : (s : State) → (r : Rests h s) → (x : Rests to s) × (x.sense ≡ r.sense)
  pub unit : slice_get to.entries (c - 1) ≡ Some at
  pub some : at ≢ 0
  pub low : at ≤ 0x12000000
  pub bodies : to.bodies ≡ h.bodies
  pub statuses : to.statuses ≡ h.statuses
  pub references : to.references ≡ h.references
  pub objects : to.next ≡ h.next
  pub cost : to.cost ≡ h.cost
  pub counted : to.machine.regs 3 ≡ h.machine.regs 3
