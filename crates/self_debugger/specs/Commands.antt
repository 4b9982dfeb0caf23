-- The commands of a script that are built, and its transcript.
use Rattle.std.specs.Prelude.{ℕ, Bool, true, List, [], ◌∷◌}
use Rattle.session_text.specs.declared.commands.Command.{Command}
use Rattle.session_text.specs.declared.commands.Command.TheVariants as commands
use Rattle.source_model.specs.Script.{advisor}
use Rattle.source_model.specs.State.{State, Reached, silent}
use Rattle.plain_session.specs.Commands.{is_built, obeyed}

-- those of plain code, and another advisor
abbrev pub is_served : Command → Bool
is_served (commands.Advisor k) = true
is_served c = is_built c

-- what a command that is built comes to
unfoldable pub served : Command → Reached → Reached
served (commands.Advisor k) r = advisor k r
served c r = obeyed c r

-- the commands one after the other
unfoldable pub all_served : List Command → Reached → Reached
all_served [] r = r
all_served (c ∷ more) r = all_served more (served c r)

-- the transcript of a script from a state on
abbrev pub transcript : List Command → State → List ℕ
transcript script s = (all_served script (silent s)).out
