-- The command of a line.
use Rattle.std.specs.Prelude.{ℕ, ◌==◌, if◌then◌else◌, List, [], ◌∷◌, Option, Some, None, codes}
use Rattle.std.specs.List.{list_all}
use Rattle.session_text.specs.declared.commands.Command.TheVariants as commands
use Rattle.session_text.specs.declared.reading.Meaning.{Meaning}
use Rattle.session_text.specs.declared.reading.Meaning.TheVariants.{Idle, Does, Opens, NoCommand}
use Rattle.session_text.specs.Words.{is_text, is_blank, words, is_name, number}

-- the command of one word
abbrev pub alone : List ℕ → Meaning
alone w =
    if is_text w (codes "step") then Does commands.Step
    else if is_text w (codes "stack") then Does commands.Stack
    else if is_text w (codes "units") then Does commands.Units
    else if is_text w (codes "machine") then Does commands.Machine
    else NoCommand

-- the command of a word and a number
abbrev pub counted : List ℕ → Option ℕ → Meaning
counted w None = NoCommand
counted w (Some k) =
    if is_text w (codes "run") then Does (commands.Run k)
    else if is_text w (codes "continue") then Does (commands.Continue k)
    else if is_text w (codes "finish") then Does (commands.Finish k)
    else if is_text w (codes "interrupt") then Does (commands.Interrupt k)
    else if is_text w (codes "switch") then Does (commands.Switch k)
    else if is_text w (codes "advisor") then Does (commands.Advisor k)
    else NoCommand

abbrev pub spawning : List ℕ → Meaning
spawning name = if is_name name then Does (commands.Spawn name) else NoCommand

-- the path of an edit has one or more names
abbrev pub editing : List (List ℕ) → Meaning
editing [] = NoCommand
editing (name ∷ more) = if list_all is_name (name ∷ more) then Opens (name ∷ more) else NoCommand

-- the command of a word and those behind it
abbrev pub of_other_words : List ℕ → List (List ℕ) → Meaning
of_other_words w [] = alone w
of_other_words w (x ∷ []) = if is_text w (codes "spawn") then spawning x else counted w (number x)
of_other_words w (x ∷ y ∷ more) = NoCommand

abbrev pub of_words : List (List ℕ) → Meaning
of_words [] = NoCommand
of_words (w ∷ more) = if is_text w (codes "edit") then editing more else of_other_words w more

-- What a line says that has no blanks at its end: nothing where it is empty or begins with '#'; else its words are a
-- command, or the beginning of an edit, or neither, as those of a line that begins with a blank.
abbrev pub meaning : List ℕ → Meaning
meaning [] = Idle
meaning (b ∷ rest) = if b == 35 then Idle else if is_blank b then NoCommand else of_words (words (b ∷ rest))
