-- Nodes of primitives, and the service that they ask for.
use Rattle.std.specs.Prelude.{◌≡◌, ℕ, ◌+◌, ◌^◌, ◌<◌, ◌≤◌, Bool, List, drop, Option, Some, None}
use Rattle.self_terms.specs.declared.names.Name.{Name}
use Rattle.self_terms.specs.declared.nodes.Node.TheVariants as nodes
use Rattle.self_terms.specs.declared.values.Value.{Value}
use Rattle.self_terms.specs.Depths.{one_if, taken, depth, depth_from}
use Rattle.source_model.specs.Soundness.{body_in}
use Rattle.source_model.specs.State.{Activation, State}
use Rattle.source_model.specs.Step.{handler_of}
use Rattle.heap_cells.specs.Standing.{IsValue}
use Rattle.raw_steps.specs.Messages.{RawMessage, IsMessage, asked}
use Rattle.raw_steps.specs.Sends.{here_of}
use Rattle.raw_steps.specs.Stands.{Sense, IsAt}
use Rattle.plain_words.specs.Moves.{Asks, registers_from}
use Rattle.plain_words.specs.Showing.{viewed}
use Rattle.plain_words.specs.Units.{frame_locals}
use Rattle.plain_runs.specs.Host.{Host, raw_of}
use Rattle.plain_runs.specs.Units.{IsBehindCall}
use Rattle.plain_runs.specs.Sound.{RunsAt, callers_of}
use Rattle.plain_runs.specs.Course.{CanGo}
use Rattle.plain_steps.specs.Steps.{StandsFor, DoesStep}

-- the word of a handler, where there is one
abbrev pub IsHandler : Sense → Option Value → ℕ → Type 0
IsHandler z None w = Unit {0}
IsHandler z (Some v) w = IsValue z.cells z.places v w

-- The words of a primitive's node have led to service 3, at an address: the word of the receiver is in %o0, those of the arguments are in the outs
-- from %o1 on, and behind them that of the handler, where there is one. The sender's message has these values and words.
pub record IsPerformed (z : Sense) (h : Host) (s : State) (b n : ℕ) (name : Name) (args : ℕ) (implied handler : Bool) (r : RunsAt h b n (nodes.Prim name args implied handler)) : Type 0 where
  pub at : ℕ
  pub receiver : ℕ
  pub first : ℕ
  pub asks : Asks h.machine 3 at receiver (frame_locals (body_in h.bodies b)) first (args + one_if handler)
  pub few : args + one_if handler ≤ 5
  pub behind : IsBehindCall h (at + 4) b n (nodes.Prim name args implied handler)
  pub low : at + 8 < 2 ^ 32
  pub takes : taken (nodes.Prim name args implied handler) ≤ depth_from 0 (body_in h.bodies b).nodes n
  pub sender : Activation
  pub older : List Activation
  pub is_at : IsAt (raw_of h) s sender older (viewed h.machine b n (frame_locals (body_in h.bodies b)) (depth (body_in h.bodies b).nodes n)) (callers_of h r.view.older) (nodes.Prim name args implied handler)
  pub words : RawMessage
  pub message : IsMessage z (asked args implied handler (here_of s sender older)) words
  pub receiver_is : words.receiver ≡ asks.to.regs 8
  pub arguments : words.arguments ≡ registers_from asks.to.regs 9 args
  pub rest : words.rest ≡ drop (taken (nodes.Prim name args implied handler)) (viewed h.machine b n (frame_locals (body_in h.bodies b)) (depth (body_in h.bodies b).nodes n)).pending
  pub handles : IsHandler z (handler_of handler (here_of s sender older)) (asks.to.regs (9 + args))

-- A primitive's words do the source's step, or they ask for the service.
pub data Performed (z : Sense) (h : Host) (s : State) (b n : ℕ) (name : Name) (args : ℕ) (implied handler : Bool) (r : RunsAt h b n (nodes.Prim name args implied handler)) : Type 0 where
  InWords : DoesStep z h s → Performed z h s b n name args implied handler r
  ByService : IsPerformed z h s b n name args implied handler r → Performed z h s b n name args implied handler r

-- so each node of a primitive, wherever it stands
abbrev pub PrimitivesAsk : Type 0
PrimitivesAsk = (z : Sense) (h : Host) (s : State) (b n : ℕ) (name : Name) (args : ℕ) (implied handler : Bool) → StandsFor z h s → (r : RunsAt h b n (nodes.Prim name args implied handler)) → CanGo h → Performed z h s b n name args implied handler r
