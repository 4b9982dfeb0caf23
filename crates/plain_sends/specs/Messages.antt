-- Messages at a trap, whoever put them there: the words of a node that sends, or the host.
use Rattle.std.specs.Prelude.{◌≡◌, ℕ, ◌+◌, ◌^◌, ◌<◌, ◌≤◌, List, drop}
use Rattle.self_terms.specs.declared.nodes.Node.{Node}
use Rattle.self_terms.specs.declared.nodes.Selector.{Selector}
use Rattle.self_terms.specs.Depths.{taken, depth, depth_from}
use Rattle.sparc_machine.specs.State.{MachineState}
use Rattle.source_model.specs.Messages.{Met}
use Rattle.source_model.specs.Sends.{Message}
use Rattle.source_model.specs.Soundness.{body_in}
use Rattle.source_model.specs.State.{Activation, State}
use Rattle.raw_steps.specs.Messages.{RawMessage}
use Rattle.raw_steps.specs.Sends.{IsSend}
use Rattle.raw_steps.specs.Stands.{Sense, IsAt}
use Rattle.plain_words.specs.Moves.{Moved, registers_from}
use Rattle.plain_words.specs.Showing.{viewed}
use Rattle.plain_words.specs.Units.{frame_locals}
use Rattle.plain_runs.specs.Host.{Host, raw_of}
use Rattle.plain_runs.specs.Units.{IsBehindCall}
use Rattle.plain_runs.specs.Sound.{RunsAt, callers_of}
use Rattle.plain_sends.specs.Sends.{IsSent, met_of}

-- A machine at a trap of a node, with a message: the word of the receiver is in %o0, those of so many arguments from %o1 on, and since the node's poll
-- nothing has changed but scratch registers. The node's step sends a message with these values and words, of a name, which meets this.
pub record IsMessaged (z : Sense) (h : Host) (s : State) (b n : ℕ) (node : Node) (args name : ℕ) (met : Met) (r : RunsAt h b n node) (to : MachineState) : Type 0 where
  pub at : ℕ
  pub moved : Moved h.machine to at h.machine.memory (h.machine.regs 2)
  pub behind : IsBehindCall h (at + 4) b n node
  pub low : at + 8 < 2 ^ 32
  pub takes : taken node ≤ depth_from 0 (body_in h.bodies b).nodes n
  pub sender : Activation
  pub older : List Activation
  pub is_at : IsAt (raw_of h) s sender older (viewed h.machine b n (frame_locals (body_in h.bodies b)) (depth (body_in h.bodies b).nodes n)) (callers_of h r.view.older) node
  pub message : Message
  pub words : RawMessage
  pub send : IsSend s z sender older node message words name met
  pub receiver_is : words.receiver ≡ to.regs 8
  pub arguments : words.arguments ≡ registers_from to.regs 9 args
  pub rest : words.rest ≡ drop (taken node) (viewed h.machine b n (frame_locals (body_in h.bodies b)) (depth (body_in h.bodies b).nodes n)).pending

-- so it is at the trap of a node that sends
abbrev pub SendsMessage : Type 0
SendsMessage = (z : Sense) (h : Host) (s : State) (b n : ℕ) (node : Node) (sel : Selector) (r : RunsAt h b n node) (q : IsSent z h s b n node sel r) → IsMessaged z h s b n node sel.args sel.name.0 (met_of node s q.sender) r q.asks.to
