-- How machine and host come about between commands.
use Rattle.std.specs.Prelude.{◌≡◌, ◌≢◌, ℕ, ◌+◌, ◌-◌, ◌<◌, ◌≤◌, length, Some, slice_get}
use Rattle.self_terms.specs.declared.values.BodyId.{BodyId}
use Rattle.object_maps.specs.declared.maps.SlotKind.TheVariants.{Method}
use Rattle.slot_lookup.specs.declared.sends.Found.TheVariants.{One}
use Rattle.sparc_store.specs.Words.{Words}
use Rattle.sparc_store.specs.Windows.{CanFlush, flushed}
use Rattle.sparc_machine.specs.State.{stack_of, with_stack}
use Rattle.plain_runs.specs.Host.{Host}
use Rattle.plain_runs.specs.Course.{with_machine}
use Rattle.plain_runs.specs.Services.{with_unit}
use Rattle.plain_units.specs.Putting.{IsPut}
use Rattle.plain_turns.specs.Events.{Reaches}
use Rattle.plain_births.specs.Births.{born}
use Rattle.plain_births.specs.Meeting.{lobby_finds}
use Rattle.plain_switches.specs.Switching.{switches}

-- By runs, which are instructions and services alone, so many of each in all; by units that are put; by activities that begin, each of a method that
-- a lookup from the lobby finds; by another activity that becomes the current one; and by frames of the current activity that are saved where they may be.
pub data Leads (h : Host) : ℕ → ℕ → Host → Type 0 where
  Stays : Leads h 0 0 h
  Runs : (i v more served : ℕ) (g to : Host) → Leads h i v g → Reaches g more served to → Leads h (i + more) (v + served) to
  Puts : (i v : ℕ) (g : Host) (c : ℕ) (memory : Words) → Leads h i v g → IsPut g c memory → Leads h i v (with_unit c memory g)
  Begins : (i v : ℕ) (g : Host) (room lobby holder at name : ℕ) (c : BodyId) → Leads h i v g → g.next ≤ room → slice_get g.references.objects 0 ≡ Some lobby → lobby_finds room g lobby name ≡ One holder (Method c) → slice_get g.entries (c.0 - 1) ≡ Some at → at ≢ 0
      → Leads h i v (born c.0 at lobby holder g)
  Switches : (i v : ℕ) (g : Host) (k : ℕ) → Leads h i v g → k < length g.statuses → Leads h i v (switches k g)
  Flushes : (i v : ℕ) (g : Host) → Leads h i v g → CanFlush (stack_of g.machine) → Leads h i v (with_machine g (with_stack g.machine (flushed (stack_of g.machine))))
