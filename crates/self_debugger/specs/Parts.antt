-- What the calls inside the program are to do, over a world that was read. Used by contracts of private functions alone.
use Rattle.std.specs.Prelude.{◌≡◌, ℕ, ◌++◌, Ok, List, Option}
use Rattle.io_ports.specs.Causes.{Takes, TakesFront}
use Rattle.session_text.specs.declared.commands.Command.{Command}
use Rattle.source_model.specs.State.{Reached, silent}
use Rattle.plain_session.specs.Commands.{obeyed}
use Rattle.plain_session.specs.Sessions as words
use Rattle.world_build.specs.Worlds.{World}
use Rattle.self_debugger.specs.Commands.{served, all_served}
use Rattle.self_debugger.specs.Sessions.{Session, Shows, Obeys}
use Rattle.self_debugger.specs.WorldFiles.{WorldRead, begins}
use Rattle.self_debugger.specs.Headline.{IsLedFrom}

-- some bytes are this world
abbrev pub IsWorld : World → Type 0
IsWorld w = (bytes : List ℕ) × WorldRead bytes (Ok w)

-- A command of plain code was obeyed, and what it writes was written.
pub record DidPlain (x y : words.Session) (c : Command) (old now : Option (List ℕ)) : Type 0 where
  pub text : List ℕ
  pub obeys : words.Obeys x y (obeyed c) text
  pub took : Takes old now text
  pub led : words.IsLed x y

-- It broke off, and a front of what it writes was written.
abbrev pub BrokePlain : words.Session → Command → Option (List ℕ) → Option (List ℕ) → Type 0
BrokePlain x c old now = words.HasBroken x (obeyed c) old now

-- So it is of any command.
pub record Did (x y : Session) (c : Command) (old now : Option (List ℕ)) : Type 0 where
  pub text : List ℕ
  pub obeys : Obeys x y (served c) text
  pub took : Takes old now text
  pub led : words.IsLed x.plain y.plain

abbrev pub Broke : Session → Command → Option (List ℕ) → Option (List ℕ) → Type 0
Broke x c old now = (q : Reached) → Shows x q.state → (text : List ℕ) × ((served c q).out ≡ q.out ++ text) × TakesFront old now text

-- Amid the commands of a script over a world, where these are left.
pub record IsAmid (handed : ℕ) (w : World) (all left : List Command) (x : Session) (old now : Option (List ℕ)) : Type 0 where
  pub reached : Reached
  pub shows : Shows x reached.state
  pub took : Takes old now reached.out
  pub left_is : all_served left reached ≡ all_served all (silent (begins handed w))
  pub led : IsLedFrom handed w x

-- All were obeyed.
pub record IsDone (handed : ℕ) (w : World) (all : List Command) (x : Session) : Type 0 where
  pub shows : Shows x (all_served all (silent (begins handed w))).state
  pub led : IsLedFrom handed w x
