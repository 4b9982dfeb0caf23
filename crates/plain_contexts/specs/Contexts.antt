-- How activations end, whether they have contexts or not.
use Rattle.std.specs.Prelude.{◌≡◌, ℕ, suc}
use Rattle.self_terms.specs.declared.nodes.Node.{Node}
use Rattle.source_model.specs.State.{State}
use Rattle.raw_steps.specs.Stands.{Sense}
use Rattle.plain_runs.specs.Host.{Host}
use Rattle.plain_runs.specs.Sound.{RunsAt}
use Rattle.plain_runs.specs.Course.{CanGo}
use Rattle.plain_steps.specs.Steps.{StandsFor, DoesStep, EndsActivity}

-- a node that ends an activation which isn't the oldest of its activity
abbrev pub AnswersOlder : Node → Type 0
AnswersOlder node = (z : Sense) (h : Host) (s : State) (b n o : ℕ) → StandsFor z h s → (r : RunsAt h b n node) → CanGo h → r.view.older ≡ suc o → DoesStep z h s

-- a node that ends the oldest one
abbrev pub EndsOldest : Node → Type 0
EndsOldest node = (z : Sense) (h : Host) (s : State) (b n : ℕ) → StandsFor z h s → (r : RunsAt h b n node) → CanGo h → r.view.older ≡ 0 → EndsActivity z h s
