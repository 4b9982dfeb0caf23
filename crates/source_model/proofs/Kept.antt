-- What is proved of one node at a time.
use Rattle.std.specs.Prelude.{◌≡◌, ℕ, ◌<◌, [], Bool, None, Ok, Err, List}
use Rattle.self_terms.specs.declared.nodes.Node.{Node}
use Rattle.self_terms.specs.declared.nodes.Node.TheVariants as nodes
use Rattle.self_terms.specs.declared.names.Name.{Name}
use Rattle.self_terms.specs.declared.values.BodyId.{BodyId}
use Rattle.self_terms.specs.declared.values.Value.TheVariants as values
use Rattle.source_model.specs.State.{Activation, State}
use Rattle.source_model.specs.Messages.{Met}
use Rattle.source_model.specs.Sends.{Outcome, Here, Message, begun, enters}
use Rattle.source_model.specs.Script.{with_activity}
use Rattle.source_model.specs.Step.{handler_of, step}
use Rattle.source_model.specs.Canon.{HasOwnNumbers}
use Rattle.source_model.specs.Soundness.{IsWell, IsAt, Accepts, MetAccepts, HandlerAccepts, NextAccepts}

-- a step of this node keeps the state well formed
abbrev pub KeptAt : Node → Type 0
KeptAt node = (home : ℕ → ℕ) (s : State) (a : Activation) (older : List Activation) → IsWell home s → IsAt s a older node → IsWell home (step s).state

-- the state after, where the numbers that were given before tell the same bodies
abbrev pub IsWellAfter : (ℕ → ℕ) → State → State → Type 0
IsWellAfter home s t = (later : ℕ → ℕ) × ((k : ℕ) → k < s.unused → later k ≡ home k) × IsWell later t

-- a step of this node, which sends this message to what it met, where that accepts it
abbrev pub KeptBySend : Node → (Here → Message) → (Here → Met) → Type 0
KeptBySend node message met =
    (home : ℕ → ℕ) (s : State) (a : Activation) (older : List Activation) → IsWell home s → HasOwnNumbers s → IsAt s a older node
    → (let h : Here = record { state = s; young = a; older = older } in MetAccepts home s (message h) (met h)) → IsWellAfter home s (step s).state

abbrev pub KeptByPrimitives : Type 0
KeptByPrimitives =
    (name : Name) (args : ℕ) (implied handler : Bool) (home : ℕ → ℕ) (s : State) (a : Activation) (older : List Activation) → IsWell home s → HasOwnNumbers s
    → IsAt s a older (nodes.Prim name args implied handler) → HandlerAccepts home s (handler_of handler (record { state = s; young = a; older = older })) → IsWellAfter home s (step s).state

-- any step
abbrev pub StepsKeep : Type 0
StepsKeep = (home : ℕ → ℕ) (s : State) → IsWell home s → HasOwnNumbers s → NextAccepts home s → IsWellAfter home s (step s).state

-- a new activity begins with a method without arguments
abbrev pub EndsWell : (ℕ → ℕ) → State → Outcome → Type 0
EndsWell home s (Ok r) = IsWellAfter home s r.state
EndsWell home s (Err e) = Unit {0}

abbrev pub SpawnsKeep : Type 0
SpawnsKeep =
    (home : ℕ → ℕ) (s : State) (b : BodyId) (holder : ℕ) → IsWell home s → HasOwnNumbers s → Accepts s.bodies b.0 0 None
    → EndsWell home s (enters (begun s b.0 (values.Object 0) holder None []) [] (with_activity s))
