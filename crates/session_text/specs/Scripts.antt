-- What a script means.
use Rattle.std.specs.Prelude.{◌≡◌, ℕ, ◌+◌, Bool, true, false, not, ◌==◌, if◌then◌else◌, List, [], ◌∷◌, ◌++◌, codes, Option, Some, None, Result, Ok, Err}
use Rattle.std.specs.List.{slice_split}
use Rattle.session_text.specs.declared.commands.Command.{Command}
use Rattle.session_text.specs.declared.commands.Command.TheVariants as commands
use Rattle.session_text.specs.declared.reading.Meaning.{Meaning}
use Rattle.session_text.specs.declared.reading.Meaning.TheVariants.{Idle, Does, Opens, NoCommand}
use Rattle.session_text.specs.declared.scripts.ScriptErr.{ScriptErr}
use Rattle.session_text.specs.declared.scripts.ScriptErr.TheVariants.{BadCommand, OutOfMemory}
use Rattle.session_text.specs.Words.{is_text, trimmed}
use Rattle.session_text.specs.Commands.{meaning}

-- A line ends with a newline or with the text.
abbrev pub lines : List ℕ → List (List ℕ)
lines text = slice_split (λ b. b == 10) text

-- the line that ends an edit
abbrev pub is_end : List ℕ → Bool
is_end l = is_text (trimmed l) (codes "end")

abbrev pub behind_line : List ℕ → Option (List ℕ) → Option (List ℕ)
behind_line l None = None
behind_line l (Some text) = Some (l ++ 10 ∷ text)

-- The text of an edit, of which these lines stand behind the first: the lines before the one that ends it, as they stand,
-- each with its newline. None where no line ends it.
abbrev pub edit_text : List (List ℕ) → Option (List ℕ)
edit_text [] = None
edit_text (l ∷ rest) = if is_end l then Some [] else behind_line l (edit_text rest)

-- these commands in front of others, where those are not refused
abbrev pub in_front : List Command → Result (List Command) ℕ → Result (List Command) ℕ
in_front front (Ok others) = Ok (front ++ others)
in_front front (Err n) = Err n

-- What a line of this number means before others, where `text` is the text of an edit that begins with it, and `others`
-- what the lines behind it mean, inside an edit or outside.
abbrev pub of_line : ℕ → Option (List ℕ) → (Bool → Result (List Command) ℕ) → Meaning → Result (List Command) ℕ
of_line n text others Idle = others false
of_line n text others (Does c) = in_front (c ∷ []) (others false)
of_line n (Some text) others (Opens path) = in_front (commands.Edit path text ∷ []) (others true)
of_line n None others (Opens path) = Err n
of_line n text others NoCommand = Err n

-- The commands of lines, of which the first has this number, or the number of the first that is no command. Inside an
-- edit each line belongs to its text, up to the one that ends it.
abbrev pub commands_of : Bool → ℕ → List (List ℕ) → Result (List Command) ℕ
commands_of inside n [] = Ok []
commands_of true n (l ∷ rest) = commands_of (not (is_end l)) (n + 1) rest
commands_of false n (l ∷ rest) = of_line n (edit_text rest) (λ inside. commands_of inside (n + 1) rest) (meaning (trimmed l))

-- The commands of a text, or the number of its first line that is no command; lines are numbered from 1.
abbrev pub script : List ℕ → Result (List Command) ℕ
script text = commands_of false 1 (lines text)

-- a refusal names the line that is no command; want of memory says nothing of the text
abbrev pub IsRefusal : Result (List Command) ℕ → ScriptErr → Type 0
IsRefusal m (BadCommand n) = m ≡ Err n
IsRefusal m OutOfMemory = Unit {0}
