-- What messages meet takes their arguments.
use Rattle.std.proofs.Common.{◌≡◌, ℕ, ◌≤◌, ◌∙◌, ap, sym, subst, arith}
use Rattle.std.specs.Prelude.{List, ◌∷◌, length, Some, None, slice_get}
use Rattle.std.proofs.lemmas.Bool.{lt-ltb}
use Rattle.self_terms.specs.declared.bodies.Body.{Body}
use Rattle.self_terms.specs.declared.nodes.Node.{Node}
use Rattle.self_terms.specs.declared.nodes.Node.TheVariants as nodes
use Rattle.self_terms.specs.declared.nodes.Selector.{Selector}
use Rattle.self_terms.specs.Depths.{taken}
use Rattle.source_model.specs.Formed.{IsWellFormed}
use Rattle.source_model.specs.Messages.{Met, body_of}
use Rattle.source_model.specs.Sends.{Message}
use Rattle.source_model.specs.Soundness.{Accepts, MetAccepts, NodeAccepts}
use Rattle.source_model.specs.State.{Activation, Running, State}
use Rattle.source_model.specs.Step.{node_at, stated, implied}
use Rattle.source_model.proofs.Finding.{finds_messages}
use Rattle.source_model.proofs.Soundly.{finds_arguments, finds_values}
use Rattle.raw_steps.specs.Sends.{here_of}
use Rattle.plain_runs.proofs.Located.{some_is}
use Rattle.plain_sends.specs.Sends.{met_of, selector_of}
use Rattle.plain_answers.specs.Fitting.{MethodsFit, AssignmentsFit}

-- the message of a node that sends has so many arguments, and is accepted
pub record IsAccepted (home : ℕ → ℕ) (s : State) (args : ℕ) (met : Met) : Type 0 where
  pub message : Message
  pub many : length message.arguments ≡ args
  pub accepts : MetAccepts home s message met

accepted : (s : State) (a : Activation) (older : List Activation) (node : Node) (sel : Selector) → slice_get s.activities s.current ≡ Some (Running (a ∷ older)) → node_at (body_of s a.body) a.next ≡ node → selector_of node ≡ Some sel
    → (w : IsWellFormed s) → IsAccepted w.0 s sel.args (met_of node s a)
accepted s a older node sel here is given w = by_node node given (finds_values w.0 s a older node w.1.well (record { here = here; node = is })) (subst (λ (x : Node). NodeAccepts w.0 (here_of s a older) x) is (finds_messages w.0 s w.1 a older here))
  where
    by_node : (x : Node) → selector_of x ≡ Some sel → taken x ≤ length a.pending → NodeAccepts w.0 (here_of s a older) x → IsAccepted w.0 s sel.args (met_of x s a)
    by_node (nodes.Send y) e enough ok = record { message = stated y.args (here_of s a older); many = finds_arguments y.args a.pending (omega (arith, enough)) ∙ ap (λ (q : Selector). q.args) (some_is y sel e); accepts = ok }
    by_node (nodes.SelfSend y) e enough ok = record { message = implied y.args (here_of s a older); many = finds_arguments y.args a.pending enough ∙ ap (λ (q : Selector). q.args) (some_is y sel e); accepts = ok }
    by_node (nodes.Resend y) e enough ok = record { message = implied y.args (here_of s a older); many = finds_arguments y.args a.pending enough ∙ ap (λ (q : Selector). q.args) (some_is y sel e); accepts = ok }
    by_node (nodes.Directed parent y) e enough ok = record { message = implied y.args (here_of s a older); many = finds_arguments y.args a.pending enough ∙ ap (λ (q : Selector). q.args) (some_is y sel e); accepts = ok }
    by_node _ e enough ok = absurd (cc)

pub methods_fit : MethodsFit
methods_fit z h s b n node sel r q given f w o c met inside =
    let g = accepted s q.sender q.older node sel q.is_at.here q.is_at.node_is given w in
    let its = (subst (λ (y : Met). MetAccepts w.0 s g.message y) met g.accepts).0 (lt-ltb o (length s.things) inside) in
    subst (λ (bs : List Body). Accepts bs c.0 sel.args None) (sym f.bodies) (subst (λ (k : ℕ). Accepts s.bodies c.0 k None) g.many its)

pub assignments_fit : AssignmentsFit
assignments_fit z h s b n node sel r q given f w o met =
    let g = accepted s q.sender q.older node sel q.is_at.here q.is_at.node_is given w in
    sym g.many ∙ subst (λ (y : Met). MetAccepts w.0 s g.message y) met g.accepts
