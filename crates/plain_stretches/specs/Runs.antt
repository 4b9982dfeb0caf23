-- A run of the machine up to a trap.
use Rattle.std.specs.Prelude.{◌≡◌, ℕ, ◌<◌}
use Rattle.sparc_machine.specs.State.{MachineState}
use Rattle.sparc_machine.specs.Running.{exec, taken, Lawful, Ran}
use Rattle.sparc_machine.specs.declared.event.MachineRun.{MachineRun}
use Rattle.sparc_machine.specs.declared.event.Event.TheVariants as events
use Rattle.plain_words.specs.Going.{Goes, IsTrap}

-- what a run tells that came to this machine, at a trap behind so many instructions
pub record Told (n t : ℕ) (to new : MachineState) (told : MachineRun) : Type 0 where
  pub machine : new ≡ to
  pub count : told.taken ≡ n
  pub event : told.event ≡ events.Trap t

-- A run of up to `most` instructions may be made, and comes to a trap behind n of them.
pub record RunsTo (most n t : ℕ) (m to : MachineState) : Type 0 where
  pub lawful : Lawful most m
  pub machine : exec most m ≡ to
  pub count : taken most m ≡ n
  pub tells : (new : MachineState) (told : MachineRun) → Ran most m new told → Told n t to new told

-- Where n instructions lead to a trap, every run of more comes to it.
abbrev pub TrapsStop : Type 0
TrapsStop = (n t most : ℕ) (m to : MachineState) → Goes n m to → IsTrap t to → n < most → RunsTo most n t m to
