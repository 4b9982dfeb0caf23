-- A command in the words of the source's interpreter.
use Rattle.std.specs.Prelude.{◌≡◌, ℕ, List}
use Rattle.source_model.specs.Script as source
use Rattle.session_text.specs.declared.commands.Command.{Command}
use Rattle.session_text.specs.declared.commands.Command.TheVariants as commands

-- `reads` is how the text of an edit reads, as one method slot
abbrev pub told : (List ℕ → source.EditText) → Command → source.Command
told reads (commands.Spawn name) = source.Spawn name
told reads (commands.Switch k) = source.Switch k
told reads (commands.Run n) = source.Run n
told reads (commands.Continue n) = source.Continue n
told reads commands.Step = source.Step
told reads (commands.Interrupt n) = source.Interrupt n
told reads (commands.Finish n) = source.Finish n
told reads commands.Stack = source.Stack
told reads (commands.Edit path text) = source.Edit path (reads text)
told reads commands.Units = source.Units
told reads commands.Machine = source.Machine
told reads (commands.Advisor k) = source.Advisor k

-- what was told says which command it was
abbrev pub CanBeToldBack : (List ℕ → source.EditText) → Type 0
CanBeToldBack reads = (back : source.Command → Command) × ((c : Command) → back (told reads c) ≡ c)
