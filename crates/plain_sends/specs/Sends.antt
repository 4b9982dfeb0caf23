-- Nodes that send, and the service that they ask for.
use Rattle.std.specs.Prelude.{◌≡◌, ℕ, ◌+◌, ◌^◌, ◌<◌, ◌≤◌, List, ◌∷◌, drop, Option, Some, None, slice_get}
use Rattle.self_terms.specs.declared.nodes.Node.{Node}
use Rattle.self_terms.specs.declared.nodes.Node.TheVariants as nodes
use Rattle.self_terms.specs.declared.nodes.Selector.{Selector}
use Rattle.self_terms.specs.declared.errors.ErrorName.TheVariants as errors
use Rattle.self_terms.specs.declared.values.Value.{Value}
use Rattle.self_terms.specs.Depths.{taken, depth, depth_from}
use Rattle.source_model.specs.declared.objects.Content.TheVariants.{Constant, Assignable, Parent}
use Rattle.source_model.specs.Messages.{Met, Missing, Holds, meets, meets_above, meets_through}
use Rattle.source_model.specs.Sends.{Message}
use Rattle.source_model.specs.Soundness.{body_in}
use Rattle.source_model.specs.State.{Activation, State}
use Rattle.source_model.specs.Step.{value_at}
use Rattle.heap_cells.specs.Standing.{IsValue}
use Rattle.raw_steps.specs.Messages.{RawMessage}
use Rattle.raw_steps.specs.Sends.{IsSend}
use Rattle.raw_steps.specs.Stands.{Sense, IsAt}
use Rattle.plain_words.specs.Moves.{Asks, registers_from}
use Rattle.plain_words.specs.Showing.{viewed}
use Rattle.plain_words.specs.Units.{frame_locals}
use Rattle.plain_runs.specs.Host.{Host, raw_of}
use Rattle.plain_runs.specs.Units.{IsBehindCall}
use Rattle.plain_runs.specs.Sound.{RunsAt, callers_of}
use Rattle.plain_runs.specs.Course.{with_machine, CanGo}
use Rattle.plain_runs.specs.Services.{data_answers}
use Rattle.plain_steps.specs.Steps.{StandsFor, DoesStep}

-- the selector that a node sends
abbrev pub selector_of : Node → Option Selector
selector_of (nodes.Send sel) = Some sel
selector_of (nodes.SelfSend sel) = Some sel
selector_of (nodes.Resend sel) = Some sel
selector_of (nodes.Directed parent sel) = Some sel
selector_of _ = None

-- what its message meets, sent by an activation
abbrev pub met_of : Node → State → Activation → Met
met_of (nodes.Send sel) s a = meets s (value_at a.pending sel.args) sel.name.0
met_of (nodes.SelfSend sel) s a = meets s a.receiver sel.name.0
met_of (nodes.Resend sel) s a = meets_above s a.holder sel.name.0
met_of (nodes.Directed parent sel) s a = meets_through s a.holder parent.0 sel.name.0
met_of _ s a = Missing errors.NotUnderstood

-- The words of a node that sends have led to service 1, at an address: the word of the receiver is in %o0, those of the arguments from %o1 on.
-- The sender's message has these values and words.
pub record IsSent (z : Sense) (h : Host) (s : State) (b n : ℕ) (node : Node) (sel : Selector) (r : RunsAt h b n node) : Type 0 where
  pub at : ℕ
  pub receiver : ℕ
  pub first : ℕ
  pub asks : Asks h.machine 1 at receiver (frame_locals (body_in h.bodies b)) first sel.args
  pub behind : IsBehindCall h (at + 4) b n node
  pub low : at + 8 < 2 ^ 32
  pub takes : taken node ≤ depth_from 0 (body_in h.bodies b).nodes n
  pub sender : Activation
  pub older : List Activation
  pub is_at : IsAt (raw_of h) s sender older (viewed h.machine b n (frame_locals (body_in h.bodies b)) (depth (body_in h.bodies b).nodes n)) (callers_of h r.view.older) node
  pub message : Message
  pub words : RawMessage
  pub send : IsSend s z sender older node message words sel.name.0 (met_of node s sender)
  pub receiver_is : words.receiver ≡ asks.to.regs 8
  pub arguments : words.arguments ≡ registers_from asks.to.regs 9 sel.args
  pub rest : words.rest ≡ drop (taken node) (viewed h.machine b n (frame_locals (body_in h.bodies b)) (depth (body_in h.bodies b).nodes n)).pending

-- each node that sends does so, wherever it stands
abbrev pub NodesSend : Type 0
NodesSend = (z : Sense) (h : Host) (s : State) (b n : ℕ) (node : Node) (sel : Selector) → selector_of node ≡ Some sel → StandsFor z h s → (r : RunsAt h b n node) → CanGo h → sel.args ≤ 5 → IsSent z h s b n node sel r

-- What was met is data, and this its word.
pub data IsData (z : Sense) (met : Met) (word : ℕ) : Type 0 where
  OfConstant : (o : ℕ) (v : Value) → met ≡ Holds o (Constant v) → IsValue z.cells z.places v word → IsData z met word
  OfField : (o : ℕ) (v : Value) → met ≡ Holds o (Assignable v) → IsValue z.cells z.places v word → IsData z met word
  OfParent : (o p : ℕ) → met ≡ Holds o (Parent p) → slice_get z.places.objects p ≡ Some word → IsData z met word

-- Where the message meets data, the words behind the service do the source's step, whatever the service leaves of goal and plain cost.
abbrev pub DataAnswers : Type 0
DataAnswers = (z : Sense) (h : Host) (s : State) (b n : ℕ) (node : Node) (sel : Selector) (r : RunsAt h b n node) (q : IsSent z h s b n node sel r) → StandsFor z h s → CanGo h
    → (goal cost word : ℕ) → goal ≤ 1000000000 → IsData z (met_of node s q.sender) word → DoesStep z (data_answers goal cost word (with_machine h q.asks.to)) s
