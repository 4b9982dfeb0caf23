-- The commands of a script over plain code, and its transcript.
use Rattle.std.specs.Prelude.{ℕ, ◌==◌, nat_le, Bool, true, false, List, [], ◌∷◌}
use Rattle.session_text.specs.declared.commands.Command.{Command}
use Rattle.session_text.specs.declared.commands.Command.TheVariants as commands
use Rattle.source_model.specs.Formed.{arity}
use Rattle.source_model.specs.Script.{spawn, switch, over_current, with_run_line, continue_to, finish, shows}
use Rattle.source_model.specs.State.{State, Reached, silent}
use Rattle.source_model.specs.Step.{run}

-- the commands that are built: an activity of a method without arguments, another current activity, runs, and the activations that are there
abbrev pub is_built : Command → Bool
is_built (commands.Spawn name) = arity name == 0
is_built (commands.Switch k) = true
is_built (commands.Run n) = nat_le n 1000000000
is_built (commands.Continue n) = nat_le n 1000000000
is_built commands.Step = true
is_built (commands.Interrupt n) = nat_le n 1000000000
is_built (commands.Finish n) = nat_le n 1000000000
is_built commands.Stack = true
is_built _ = false

-- so many steps of the current activity, and the line of that run
unfoldable pub steps_on : ℕ → Reached → Reached
steps_on n r = over_current (λ all q. with_run_line (run n q)) r

-- on to a count of steps, where that isn't passed yet, and the line of that run
unfoldable pub goes_to : ℕ → Reached → Reached
goes_to n r = over_current (λ all q. continue_to n q) r

-- on until the youngest activation is gone, at most so many steps, and the line of that run
unfoldable pub finishes : ℕ → Reached → Reached
finishes n r = over_current (λ all q. with_run_line (finish n all q)) r

-- the lines of the current activity's activations
unfoldable pub stacks : Reached → Reached
stacks r = over_current shows r

-- what a command that is built comes to; an interrupt stops after as many steps as it asks for
unfoldable pub obeyed : Command → Reached → Reached
obeyed (commands.Spawn name) r = spawn name r
obeyed (commands.Switch k) r = switch k r
obeyed (commands.Run n) r = steps_on n r
obeyed (commands.Continue n) r = goes_to n r
obeyed commands.Step r = steps_on 1 r
obeyed (commands.Interrupt n) r = steps_on n r
obeyed (commands.Finish n) r = finishes n r
obeyed commands.Stack r = stacks r
obeyed _ r = r

-- the commands one after the other
unfoldable pub all_obeyed : List Command → Reached → Reached
all_obeyed [] r = r
all_obeyed (c ∷ more) r = all_obeyed more (obeyed c r)

-- the transcript of a script from a state on
abbrev pub transcript : List Command → State → List ℕ
transcript script s = (all_obeyed script (silent s)).out
