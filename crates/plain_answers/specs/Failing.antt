-- Where an error ends the current activity.
use Rattle.std.specs.Prelude.{◌≡◌, ℕ, ◌<◌, ◌≤◌, false, List, [], ◌∷◌, length, Some, Err, slice_get}
use Rattle.self_terms.specs.declared.errors.ErrorName.{ErrorName}
use Rattle.self_terms.specs.declared.errors.ErrorName.TheVariants as errors
use Rattle.self_terms.specs.declared.nodes.Node.{Node}
use Rattle.self_terms.specs.declared.nodes.Place.{Place}
use Rattle.self_terms.specs.declared.nodes.Selector.{Selector}
use Rattle.self_terms.specs.declared.values.BodyId.{BodyId}
use Rattle.sparc_machine.specs.State.{MachineState}
use Rattle.source_model.specs.declared.objects.Content.TheVariants.{Method}
use Rattle.source_model.specs.Messages.{Missing, Holds}
use Rattle.source_model.specs.Soundness.{body_in}
use Rattle.source_model.specs.State.{Activation, Running, Failed, State, with_current}
use Rattle.source_model.specs.Step.{done, place_at, place_of, step}
use Rattle.raw_steps.specs.Sends.{here_of}
use Rattle.raw_steps.specs.Stands.{Sense}
use Rattle.plain_words.specs.Moves.{Moved}
use Rattle.plain_words.specs.Units.{owns_context}
use Rattle.plain_runs.specs.Host.{Host}
use Rattle.plain_runs.specs.Units.{HasUnit}
use Rattle.plain_runs.specs.Services.{failed}
use Rattle.plain_runs.specs.Sound.{RunsAt, IsHosted}
use Rattle.plain_runs.specs.Course.{with_machine, CanGo}
use Rattle.plain_steps.specs.Steps.{StandsFor}
use Rattle.plain_sends.specs.Sends.{IsSent, met_of}

-- no body that has a unit makes blocks, so that no frame has a context
abbrev pub PlainUnits : Host → Type 0
PlainUnits h = (b at : ℕ) → HasUnit h b at → owns_context (body_in h.bodies b) ≡ false

-- The step is an error, at a place. Where the current activity has ended with it, this machine and the host stand for the state after the step,
-- which counts no step.
pub record Fails (h : Host) (m : MachineState) (s : State) (e : ErrorName) (p : Place) : Type 0 where
  pub hosted : IsHosted (with_machine h m)
  pub sense : Sense
  pub stands : StandsFor sense (failed e p (with_machine h m)) (step s).state
  pub uncounted : (step s).state.steps ≡ s.steps
  pub silent : (step s).out ≡ []

-- Where the current activity has ended with this error, at this place, this machine and the host stand for the state in which it has.
pub record EndsBy (h : Host) (m : MachineState) (s : State) (e : ErrorName) (p : Place) : Type 0 where
  pub hosted : IsHosted (with_machine h m)
  pub sense : Sense
  pub stands : StandsFor sense (failed e p (with_machine h m)) (with_current (Failed e p) s)

-- so it is at a node, while nothing but scratch registers has changed since its poll
abbrev pub ActivitiesEnd : Type 0
ActivitiesEnd = (z : Sense) (h : Host) (s : State) (b n : ℕ) (node : Node) → StandsFor z h s → RunsAt h b n node → CanGo h → PlainUnits h
    → (e : ErrorName) (place : Place) (to : MachineState) (p : ℕ) → Moved h.machine to p h.machine.memory (h.machine.regs 2) → EndsBy h to s e place

-- a node whose step is an error, while nothing but scratch registers has changed since its poll
abbrev pub ErrorsFail : Type 0
ErrorsFail = (z : Sense) (h : Host) (s : State) (b n : ℕ) (node : Node) → StandsFor z h s → RunsAt h b n node → CanGo h → PlainUnits h
    → (a : Activation) (older : List Activation) → slice_get s.activities s.current ≡ Some (Running (a ∷ older)) → (e : ErrorName) → done (here_of s a older) node ≡ Err e
    → (to : MachineState) (p : ℕ) → Moved h.machine to p h.machine.memory (h.machine.regs 2) → Fails h to s e (place_of s a)

-- a message that meets no slot, or more than one
abbrev pub MissingFails : Type 0
MissingFails = (z : Sense) (h : Host) (s : State) (b n : ℕ) (node : Node) (sel : Selector) (r : RunsAt h b n node) (q : IsSent z h s b n node sel r) → StandsFor z h s → CanGo h → PlainUnits h
    → (e : ErrorName) → met_of node s q.sender ≡ Missing e → Fails h q.asks.to s e (place_of s q.sender)

-- one that meets a method of an object, where 4096 activations are there: %g4 counts them
abbrev pub OverflowFails : Type 0
OverflowFails = (z : Sense) (h : Host) (s : State) (b n : ℕ) (node : Node) (sel : Selector) (r : RunsAt h b n node) (q : IsSent z h s b n node sel r) → StandsFor z h s → CanGo h → PlainUnits h
    → (o : ℕ) (c : BodyId) → met_of node s q.sender ≡ Holds o (Method c) → o < length s.things → 4096 ≤ q.asks.to.regs 4 → Fails h q.asks.to s errors.StackOverflow (place_of s q.sender)

-- the place of that node, by the body and the node at which the machine is
abbrev pub PlacesAgree : Type 0
PlacesAgree = (z : Sense) (h : Host) (s : State) (b n : ℕ) (node : Node) → StandsFor z h s → RunsAt h b n node
    → (a : Activation) (older : List Activation) → slice_get s.activities s.current ≡ Some (Running (a ∷ older)) → place_of s a ≡ place_at (body_in h.bodies b) n
