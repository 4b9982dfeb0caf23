-- What a whole call of the program is to write, to answer and to leave.
use Rattle.std.specs.Prelude.{◌≡◌, ◌⊎◌, ℕ, ◌≤◌, true, List, [], Option, Some, Ok}
use Rattle.std.specs.List.{list_all}
use Rattle.io_ports.specs.Causes.{Takes, TakesFront}
use Rattle.session_text.specs.declared.commands.Command.{Command}
use Rattle.session_text.specs.Scripts.{script}
use Rattle.source_model.specs.State.{silent}
use Rattle.plain_core.specs.Leading.{Leads}
use Rattle.plain_runs.specs.Host.{Host}
use Rattle.plain_turns.specs.Resting.{Rests}
use Rattle.world_build.specs.Worlds.{World}
use Rattle.self_debugger.specs.Commands.{is_served, all_served}
use Rattle.self_debugger.specs.Sessions.{Session, host_of, Shows}
use Rattle.self_debugger.specs.Words.{RunWorld, CheckWorld, Asks}
use Rattle.self_debugger.specs.WorldFiles.{WorldRead, begins}
use Rattle.self_debugger.specs.Answer.{Answer}

-- With status 0 to 3 the sink took the whole text of the answer, and the status is that of the answer;
-- with 4, 5 or 6, after a fault or want of memory, it took a front of that text.
pub record Outcome (status : ℕ) (want : Answer) (old new : Option (List ℕ)) : Type 0 where
  pub done : status ≤ 3 → Takes old new want.0 × (status ≡ want.1)
  pub front : 4 ≤ status → TakesFront old new want.0

-- The words ask for a run over a world file.
abbrev pub AsksRun : List (List ℕ) → Type 0
AsksRun words = (name : List ℕ) × Asks words (RunWorld name)

-- The words name this world file, to run a script over it or to check it.
abbrev pub NamesWorld : List (List ℕ) → List ℕ → Type 0
NamesWorld words name = Asks words (RunWorld name) ⊎ Asks words (CheckWorld name)

-- Where the words name a world file, the files tell that these are its bytes.
abbrev pub TellsWorld : List (List ℕ) → (List ℕ → Option (List ℕ)) → List ℕ → Type 0
TellsWorld words bytes_of bytes = (name : List ℕ) → NamesWorld words name → bytes_of name ≡ Some bytes

-- The bytes are a world, which a script can be run over.
abbrev pub IsAccepted : List ℕ → Type 0
IsAccepted bytes = (w : World) × WorldRead bytes (Ok w)

-- A read failed: of the world file that the words name, or, for a run, of the script, which is read after an accepted world alone.
abbrev pub HasReadFault : List (List ℕ) → (List ℕ → Option (List ℕ)) → (List ℕ → Type 0) → Type 0 → Type 0
HasReadFault words bytes_of file_failed script_failed =
    ((name : List ℕ) × NamesWorld words name × file_failed name)
    ⊎ ((name : List ℕ) × Asks words (RunWorld name) × script_failed × ((bytes : List ℕ) → bytes_of name ≡ Some bytes → IsAccepted bytes))

-- Machine and host were reached from where a session over the world begins, by as many instructions and services as the session has counted.
pub record IsLedFrom (handed : ℕ) (w : World) (session : Session) : Type 0 where
  pub start : Host
  pub begun : Rests start (begins handed w)
  pub idle : start.statuses ≡ []
  pub leads : Leads start session.plain.instructions session.plain.services (host_of session)

-- The session is what a run of the script over the world, with so many advisors, leaves: it shows the state that the script's commands come to; its machine and host were
-- reached, by just as many instructions and services as it has counted, from those that stand for the state with which a session over the world begins, without an activity.
pub record IsRun (handed : ℕ) (w : World) (text : List ℕ) (session : Session) : Type 0 where
  pub commands : List Command
  pub asked : script text ≡ Ok commands
  pub built : list_all is_served commands ≡ true
  pub shows : Shows session (all_served commands (silent (begins handed w))).state
  pub led : IsLedFrom handed w session

-- So it is over the world of these bytes.
pub record IsSession (handed : ℕ) (bytes text : List ℕ) (session : Session) : Type 0 where
  pub world : World
  pub accepted : WorldRead bytes (Ok world)
  pub run : IsRun handed world text session
