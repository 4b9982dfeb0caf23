-- The answer of the program: the text that it writes and its status.
use Rattle.std.specs.Prelude.{◌≡◌, ℕ, ◌<◌, ◌≤◌, Bool, true, false, Ok, Err, List, length, Option, Some, codes}
use Rattle.std.specs.List.{list_all}
use Rattle.session_text.specs.declared.commands.Command.{Command}
use Rattle.session_text.specs.LineTexts.{refused_line}
use Rattle.session_text.specs.Scripts.{script}
use Rattle.world_build.specs.Worlds.{World}
use Rattle.self_debugger.specs.Commands.{is_served, transcript}
use Rattle.self_debugger.specs.Words.{Job, RunWorld, CheckWorld, RunDrill, Asks}
use Rattle.self_debugger.specs.WorldLines.{ok_line}
use Rattle.self_debugger.specs.WorldFiles.{WorldRead, begins}

-- a text and a status
abbrev pub Answer : Type 0
Answer = List ℕ × ℕ

-- The answer to a script over a world: it is too long; or one of its lines is no command; or it has a command that isn't built; or it is run, from
-- the state with which a session over the world begins, where so many advisors are handed in.
pub data ScriptAnswer (handed : ℕ) (w : World) (text : List ℕ) : Answer → Type 0 where
  long_script : 1048576 < length text → ScriptAnswer handed w text (codes "script refused TooLong\n", 3)
  bad_script : (n : ℕ) → length text ≤ 1048576 → script text ≡ Err n → ScriptAnswer handed w text (refused_line n, 3)
  other_script : (cs : List Command) → length text ≤ 1048576 → script text ≡ Ok cs → list_all is_served cs ≡ false → ScriptAnswer handed w text (codes "not built\n", 3)
  done : (cs : List Command) → length text ≤ 1048576 → script text ≡ Ok cs → list_all is_served cs ≡ true → ScriptAnswer handed w text (transcript cs (begins handed w), 0)

-- the answer over the bytes of a world file; only where they are a world it needs what the script's source tells
pub data WorldAnswer (handed : ℕ) (bytes : List ℕ) (told : Option (List ℕ)) : Answer → Type 0 where
  refused_world : (line : List ℕ) → WorldRead bytes (Err line) → WorldAnswer handed bytes told (line, 2)
  accepted : (w : World) (t : List ℕ) (a : Answer) → WorldRead bytes (Ok w) → told ≡ Some t → ScriptAnswer handed w t a → WorldAnswer handed bytes told a

-- the answer to a check of the bytes of a world file
pub data CheckAnswer (bytes : List ℕ) : Answer → Type 0 where
  refused_check : (line : List ℕ) → WorldRead bytes (Err line) → CheckAnswer bytes (line, 2)
  checked : (w : World) → WorldRead bytes (Ok w) → CheckAnswer bytes (ok_line w, 0)

-- the answer to words, with so many advisors; only where they name a world it needs what the files tell of that name
pub data Answers (handed : ℕ) (words : List (List ℕ)) (bytes_of : List ℕ → Option (List ℕ)) (told : Option (List ℕ)) : Answer → Type 0 where
  usage : ((job : Job) → ¬ Asks words job) → Answers handed words bytes_of told (codes "usage: selfdb run WORLD | check WORLD | drill N\n", 1)
  no_drill : (n : ℕ) → Asks words (RunDrill n) → Answers handed words bytes_of told (codes "not built\n", 1)
  over_check : (name bytes : List ℕ) (a : Answer) → Asks words (CheckWorld name) → bytes_of name ≡ Some bytes → CheckAnswer bytes a → Answers handed words bytes_of told a
  over_world : (name bytes : List ℕ) (a : Answer) → Asks words (RunWorld name) → bytes_of name ≡ Some bytes → WorldAnswer handed bytes told a → Answers handed words bytes_of told a
