-- Block literals, where the plain cost of a block is left and where it isn't.
use Rattle.std.specs.Prelude.{◌≡◌, ℕ, ◌+◌, ◌*◌, List, ◌∷◌, Some, Err, slice_get}
use Rattle.self_terms.specs.declared.errors.ErrorName.TheVariants as errors
use Rattle.self_terms.specs.declared.nodes.Node.{Node}
use Rattle.self_terms.specs.declared.nodes.Node.TheVariants as nodes
use Rattle.self_terms.specs.declared.values.BodyId.{BodyId}
use Rattle.source_model.specs.Soundness.{body_in, HasBody}
use Rattle.source_model.specs.State.{Activation, Running, State}
use Rattle.source_model.specs.Step.{done}
use Rattle.raw_steps.specs.Sends.{here_of}
use Rattle.raw_steps.specs.Stands.{Sense}
use Rattle.plain_words.specs.Moves.{IsFull}
use Rattle.plain_runs.specs.Host.{Host}
use Rattle.plain_runs.specs.Sound.{RunsAt}
use Rattle.plain_runs.specs.Course.{CanGo}
use Rattle.plain_steps.specs.Paying.{IsPaid, HasMaps}
use Rattle.plain_steps.specs.Steps.{StandsFor, DoesStep}

-- Four words more can't be paid: the node's words have led to service 8, whose trap is the seventh word behind the poll, with nothing changed but
-- scratch registers, and the step is that error.
pub record IsFullHere (z : Sense) (h : Host) (s : State) (b n : ℕ) (node : Node) (r : RunsAt h b n node) : Type 0 where
  pub at : ℕ
  pub full : IsFull h.machine at
  pub place : at ≡ h.machine.pc + 24 + 4 * 6
  pub sender : Activation
  pub older : List Activation
  pub here : slice_get s.activities s.current ≡ Some (Running (sender ∷ older))
  pub error : done (here_of s sender older) node ≡ Err errors.StoreFull

-- A block literal's words make a block and do the step, or the store is full.
pub data Literal (z : Sense) (h : Host) (s : State) (b n : ℕ) (body : BodyId) (r : RunsAt h b n (nodes.BlockLit body)) : Type 0 where
  Made : DoesStep z h s → Literal z h s b n body r
  Full : IsFullHere z h s b n (nodes.BlockLit body) r → Literal z h s b n body r

-- so it is where the heap's room is paid for, and the body of the block is there and has its map
abbrev pub LiteralsMake : Type 0
LiteralsMake = (z : Sense) (h : Host) (s : State) (b n : ℕ) (body : BodyId) → StandsFor z h s → (r : RunsAt h b n (nodes.BlockLit body)) → CanGo h → (start : ℕ) → IsPaid start h → HasMaps h
    → (outer : ℕ) → HasBody h.bodies body.0 → (body_in h.bodies body.0).outer ≡ Some outer → Literal z h s b n body r
