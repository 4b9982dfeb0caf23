-- What messages meet takes their arguments, in well-formed states.
use Rattle.std.specs.Prelude.{◌≡◌, ℕ, ◌<◌, length, Some, None}
use Rattle.self_terms.specs.declared.nodes.Node.{Node}
use Rattle.self_terms.specs.declared.nodes.Selector.{Selector}
use Rattle.self_terms.specs.declared.values.BodyId.{BodyId}
use Rattle.source_model.specs.declared.objects.Content.TheVariants.{Assignment, Method}
use Rattle.source_model.specs.Formed.{IsWellFormed}
use Rattle.source_model.specs.Messages.{Holds}
use Rattle.source_model.specs.Soundness.{Accepts}
use Rattle.source_model.specs.State.{State}
use Rattle.raw_steps.specs.Stands.{Sense}
use Rattle.plain_runs.specs.Host.{Host}
use Rattle.plain_runs.specs.Sound.{RunsAt}
use Rattle.plain_steps.specs.Steps.{StandsFor}
use Rattle.plain_sends.specs.Sends.{IsSent, met_of, selector_of}

-- the method of an object has a body that takes as many arguments as the message has
abbrev pub MethodsFit : Type 0
MethodsFit = (z : Sense) (h : Host) (s : State) (b n : ℕ) (node : Node) (sel : Selector) (r : RunsAt h b n node) (q : IsSent z h s b n node sel r) → selector_of node ≡ Some sel → StandsFor z h s → IsWellFormed s
    → (o : ℕ) (c : BodyId) → met_of node s q.sender ≡ Holds o (Method c) → o < length s.things → Accepts h.bodies c.0 sel.args None

-- an assignment slot is met by a message of one argument
abbrev pub AssignmentsFit : Type 0
AssignmentsFit = (z : Sense) (h : Host) (s : State) (b n : ℕ) (node : Node) (sel : Selector) (r : RunsAt h b n node) (q : IsSent z h s b n node sel r) → selector_of node ≡ Some sel → StandsFor z h s → IsWellFormed s
    → (o : ℕ) → met_of node s q.sender ≡ Holds o Assignment → sel.args ≡ 1
