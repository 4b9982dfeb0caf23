-- Where an error ends the current activity, whose activations may have contexts.
use Rattle.std.specs.Prelude.{◌≡◌, ℕ, ◌<◌, ◌≤◌, List, [], ◌∷◌, length, Some, Err, slice_get}
use Rattle.self_terms.specs.declared.errors.ErrorName.{ErrorName}
use Rattle.self_terms.specs.declared.errors.ErrorName.TheVariants as errors
use Rattle.self_terms.specs.declared.nodes.Node.{Node}
use Rattle.self_terms.specs.declared.nodes.Place.{Place}
use Rattle.self_terms.specs.declared.nodes.Selector.{Selector}
use Rattle.self_terms.specs.declared.values.BodyId.{BodyId}
use Rattle.sparc_store.specs.Words.{word_at}
use Rattle.sparc_machine.specs.State.{MachineState}
use Rattle.source_model.specs.declared.objects.Content.TheVariants.{Method}
use Rattle.source_model.specs.Messages.{Missing, Holds}
use Rattle.source_model.specs.State.{Activation, Running, Failed, State, with_current}
use Rattle.source_model.specs.Step.{done, place_of, step}
use Rattle.raw_steps.specs.Sends.{here_of}
use Rattle.raw_steps.specs.Stands.{Sense}
use Rattle.plain_words.specs.Moves.{Moved}
use Rattle.plain_runs.specs.Host.{Host}
use Rattle.plain_runs.specs.Sound.{RunsAt, IsHosted}
use Rattle.plain_runs.specs.Course.{with_machine, CanGo}
use Rattle.plain_steps.specs.Steps.{StandsFor}
use Rattle.plain_sends.specs.Sends.{IsSent, met_of}
use Rattle.plain_unwinds.specs.Services.{fails_unmarked}

-- The step is an error, at a place. Where the service has ended the current activity with it, machine and host stand for the state after the
-- step, which counts no step.
pub record Fails (goal cost : ℕ) (h : Host) (s : State) (e : ErrorName) (p : Place) : Type 0 where
  pub hosted : IsHosted (fails_unmarked goal cost e p h)
  pub left : word_at (fails_unmarked goal cost e p h).machine.memory 0x30000004 ≡ cost
  pub top : (fails_unmarked goal cost e p h).machine.regs 6 ≡ h.machine.regs 6
  pub sense : Sense
  pub stands : StandsFor sense (fails_unmarked goal cost e p h) (step s).state
  pub uncounted : (step s).state.steps ≡ s.steps
  pub silent : (step s).out ≡ []

-- a node whose step is an error, while nothing but scratch registers has changed since its poll
abbrev pub ErrorsFail : Type 0
ErrorsFail = (z : Sense) (h : Host) (s : State) (b n : ℕ) (node : Node) → StandsFor z h s → RunsAt h b n node → CanGo h
    → (a : Activation) (older : List Activation) → slice_get s.activities s.current ≡ Some (Running (a ∷ older)) → (e : ErrorName) → done (here_of s a older) node ≡ Err e
    → (to : MachineState) (p : ℕ) → Moved h.machine to p h.machine.memory (h.machine.regs 2) → (goal cost : ℕ) → goal ≤ 1000000000 → Fails goal cost (with_machine h to) s e (place_of s a)

-- a message that meets no slot, or more than one
abbrev pub MissingFails : Type 0
MissingFails = (z : Sense) (h : Host) (s : State) (b n : ℕ) (node : Node) (sel : Selector) (r : RunsAt h b n node) (q : IsSent z h s b n node sel r) → StandsFor z h s → CanGo h
    → (e : ErrorName) → met_of node s q.sender ≡ Missing e → (goal cost : ℕ) → goal ≤ 1000000000 → Fails goal cost (with_machine h q.asks.to) s e (place_of s q.sender)

-- one that meets a method of an object, where 4096 activations are there: %g4 counts them
abbrev pub OverflowFails : Type 0
OverflowFails = (z : Sense) (h : Host) (s : State) (b n : ℕ) (node : Node) (sel : Selector) (r : RunsAt h b n node) (q : IsSent z h s b n node sel r) → StandsFor z h s → CanGo h
    → (o : ℕ) (c : BodyId) → met_of node s q.sender ≡ Holds o (Method c) → o < length s.things → 4096 ≤ q.asks.to.regs 4 → (goal cost : ℕ) → goal ≤ 1000000000
    → Fails goal cost (with_machine h q.asks.to) s errors.StackOverflow (place_of s q.sender)

-- Where the service has ended the current activity with this error, at this place, whatever its step is, machine and host stand for the state in which
-- it has.
pub record EndsBy (goal cost : ℕ) (h : Host) (s : State) (e : ErrorName) (p : Place) : Type 0 where
  pub hosted : IsHosted (fails_unmarked goal cost e p h)
  pub left : word_at (fails_unmarked goal cost e p h).machine.memory 0x30000004 ≡ cost
  pub top : (fails_unmarked goal cost e p h).machine.regs 6 ≡ h.machine.regs 6
  pub sense : Sense
  pub stands : StandsFor sense (fails_unmarked goal cost e p h) (with_current (Failed e p) s)

-- so it is at a node, while nothing but scratch registers has changed since its poll
abbrev pub ActivitiesEnd : Type 0
ActivitiesEnd = (z : Sense) (h : Host) (s : State) (b n : ℕ) (node : Node) → StandsFor z h s → RunsAt h b n node → CanGo h
    → (e : ErrorName) (place : Place) (to : MachineState) (p : ℕ) → Moved h.machine to p h.machine.memory (h.machine.regs 2) → (goal cost : ℕ) → goal ≤ 1000000000 → EndsBy goal cost (with_machine h to) s e place
