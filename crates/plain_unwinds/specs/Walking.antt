-- Where activities may end.
use Rattle.std.specs.Prelude.{ℕ}
use Rattle.self_terms.specs.declared.nodes.Node.{Node}
use Rattle.sparc_machine.specs.State.{MachineState}
use Rattle.source_model.specs.State.{State}
use Rattle.raw_steps.specs.Stands.{Sense}
use Rattle.plain_words.specs.Moves.{Moved}
use Rattle.plain_runs.specs.Host.{Host}
use Rattle.plain_runs.specs.Sound.{RunsAt}
use Rattle.plain_runs.specs.Course.{with_machine, CanGo}
use Rattle.plain_steps.specs.Steps.{StandsFor}
use Rattle.plain_unwinds.specs.Services.{CanUnwind}

-- wherever nothing but scratch registers has changed since a node's poll, as where its words have asked for a service
abbrev pub ActivitiesMayEnd : Type 0
ActivitiesMayEnd = (z : Sense) (h : Host) (s : State) (b n : ℕ) (node : Node) → StandsFor z h s → RunsAt h b n node → CanGo h
    → (to : MachineState) (p : ℕ) → Moved h.machine to p h.machine.memory (h.machine.regs 2) → CanUnwind (with_machine h to)
