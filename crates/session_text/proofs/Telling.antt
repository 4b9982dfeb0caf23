-- What a command tells says which command it is.
use Rattle.std.proofs.Common.{◌≡◌, ℕ, List, refl, ap}
use Rattle.source_model.specs.Script as source
use Rattle.session_text.specs.declared.commands.Command.{Command}
use Rattle.session_text.specs.declared.commands.Command.TheVariants as commands
use Rattle.session_text.specs.Telling.{told, CanBeToldBack}

abbrev back : (source.EditText → List ℕ) → source.Command → Command
back writes (source.Spawn name) = commands.Spawn name
back writes (source.Switch k) = commands.Switch k
back writes (source.Run n) = commands.Run n
back writes (source.Continue n) = commands.Continue n
back writes source.Step = commands.Step
back writes (source.Interrupt n) = commands.Interrupt n
back writes (source.Finish n) = commands.Finish n
back writes source.Stack = commands.Stack
back writes (source.Edit path text) = commands.Edit path (writes text)
back writes source.Units = commands.Units
back writes source.Machine = commands.Machine
back writes (source.Advisor k) = commands.Advisor k

told_back : (reads : List ℕ → source.EditText) (writes : source.EditText → List ℕ) → ((t : List ℕ) → writes (reads t) ≡ t) → (c : Command) → back writes (told reads c) ≡ c
told_back reads writes e (commands.Spawn name) = refl
told_back reads writes e (commands.Switch k) = refl
told_back reads writes e (commands.Run n) = refl
told_back reads writes e (commands.Continue n) = refl
told_back reads writes e commands.Step = refl
told_back reads writes e (commands.Interrupt n) = refl
told_back reads writes e (commands.Finish n) = refl
told_back reads writes e commands.Stack = refl
told_back reads writes e (commands.Edit path text) = ap (commands.Edit path) (e text)
told_back reads writes e commands.Units = refl
told_back reads writes e commands.Machine = refl
told_back reads writes e (commands.Advisor k) = refl

pub apart : (reads : List ℕ → source.EditText) (writes : source.EditText → List ℕ) → ((t : List ℕ) → writes (reads t) ≡ t) → CanBeToldBack reads
apart reads writes e = (back writes, told_back reads writes e)
