-- The words of plain code do the source's step.
use Rattle.std.specs.Prelude.{◌≡◌, ℕ, ℤ, suc, ◌+◌, ◌-◌, ◌<◌, ◌≤◌, ◌+ℤ◌, ◌-ℤ◌, Bool, true, false, not, ◌*◌, ◌&&◌, nat_eq, if◌then◌else◌, codes, List, [], ◌∷◌, ◌++◌, length, Some, slice_get}
use Rattle.self_terms.specs.declared.names.Name.{Name}
use Rattle.self_terms.specs.declared.names.TheConstants.{INT_ADD, INT_SUB}
use Rattle.self_terms.specs.Depths.{one_if, depth_from}
use Rattle.self_terms.specs.declared.values.Value.{Value}
use Rattle.self_terms.specs.declared.values.Value.TheVariants as values
use Rattle.self_terms.specs.Names.{text_of}
use Rattle.self_terms.specs.Words.{IsSmall}
use Rattle.self_terms.specs.declared.nodes.Node.{Node}
use Rattle.self_terms.specs.declared.nodes.Node.TheVariants as nodes
use Rattle.sparc_store.specs.Words.{word_at}
use Rattle.sparc_machine.specs.State.{MachineState}
use Rattle.source_model.specs.State.{Activation, Running, State}
use Rattle.source_model.specs.Primitives.{is_small}
use Rattle.source_model.specs.Sends.{Here, Message}
use Rattle.source_model.specs.Soundness.{body_in}
use Rattle.source_model.specs.Step.{step}
use Rattle.raw_steps.specs.Meeting.{HasCore}
use Rattle.raw_steps.specs.Messages.{asked}
use Rattle.raw_steps.specs.Sends.{here_of}
use Rattle.raw_steps.specs.Stands.{Sense, Stands}
use Rattle.plain_words.specs.Code.{poll, is_sum}
use Rattle.plain_words.specs.Going.{Goes, IsTrap}
use Rattle.plain_words.specs.Moves.{Asks, handed_receiver, first_handed}
use Rattle.plain_words.specs.Units.{owns_context, frame_locals}
use Rattle.plain_runs.specs.Host.{Host, raw_of}
use Rattle.plain_runs.specs.Services.{answered}
use Rattle.plain_runs.specs.Sound.{IsHosted, RunsAt}
use Rattle.plain_runs.specs.Course.{with_machine, CanGo, code_at}

-- the names of the primitives for sums and differences have their texts
pub record NamesSums (names : List (List ℕ)) : Type 0 where
  pub add : text_of names INT_ADD.0 ≡ Some (codes "_IntAdd:")
  pub sub : text_of names INT_SUB.0 ≡ Some (codes "_IntSub:")

-- What machine and host show stands for a state, and so do the maps of integers, strings, vectors and blocks; the bodies are its bodies; the
-- references by which units know objects, and `nil`, are theirs; sums and differences have their names.
pub record StandsFor (z : Sense) (h : Host) (s : State) : Type 0 where
  pub stands : Stands z (raw_of h) s
  pub core : HasCore (raw_of h) s z
  pub bodies : h.bodies ≡ s.bodies
  pub objects : (o w : ℕ) → slice_get h.references.objects o ≡ Some w → slice_get z.places.objects o ≡ Some w
  pub nil : slice_get z.places.objects s.core.nil ≡ Some h.references.nil
  pub sums : NamesSums s.names

-- So many instructions do the step: machine and host then stand for the state after it, which counts one step more, at the poll of a node of
-- a body. What was left of the goal and of the plain cost still stands there, and what is put at the heap's top is paid for: of the top and of the
-- plain cost in %g3 the one goes up by four bytes for each word of the other.
pub record DoesStep (z : Sense) (h : Host) (s : State) : Type 0 where
  pub instructions : ℕ
  pub few : instructions ≤ 512
  pub to : MachineState
  pub goes : Goes instructions h.machine to
  pub hosted : IsHosted (with_machine h to)
  pub goal : word_at to.memory 0x30000000 ≡ word_at h.machine.memory 0x30000000
  pub left : word_at to.memory 0x30000004 ≡ word_at h.machine.memory 0x30000004
  pub paid : to.regs 6 + 4 * h.machine.regs 3 ≡ h.machine.regs 6 + 4 * to.regs 3
  pub body : ℕ
  pub number : ℕ
  pub next : Node
  pub runs : RunsAt (with_machine h to) body number next
  pub sense : Sense
  pub stands : StandsFor sense (with_machine h to) (step s).state
  pub counted : (step s).state.steps ≡ s.steps + 1
  pub silent : (step s).out ≡ []

-- the words of a node of this kind do its step, wherever it stands, where this holds of the state
abbrev pub WordsDo : Node → (State → Type 0) → Type 0
WordsDo node holds = (z : Sense) (h : Host) (s : State) (b n : ℕ) → StandsFor z h s → RunsAt h b n node → CanGo h → holds s → DoesStep z h s

abbrev pub Always : State → Type 0
Always s = Unit {0}

-- Where a primitive with one argument is the next node, its receiver and its argument are integers, and so is what it makes of them.
pub record TakesIntegers (f : ℤ → ℤ → ℤ) (implied handler : Bool) (h : Here) : Type 0 where
  pub x : ℤ
  pub y : ℤ
  pub receiver : (asked 1 implied handler h).receiver ≡ values.Int x
  pub argument : (asked 1 implied handler h).arguments ≡ values.Int y ∷ []
  pub small : IsSmall (f x y)

-- so it is in a state whose current activity runs
abbrev pub AreIntegers : (ℤ → ℤ → ℤ) → Bool → Bool → State → Type 0
AreIntegers f implied handler s = (a : Activation) (older : List Activation) → slice_get s.activities s.current ≡ Some (Running (a ∷ older)) → TakesIntegers f implied handler (here_of s a older)

-- the number of the first value that a primitive takes
abbrev pub first_taken : Host → ℕ → ℕ → ℕ → Bool → Bool → ℕ
first_taken h b n args implied handler = depth_from 0 (body_in h.bodies b).nodes n - (args + one_if (not implied) + one_if handler)

abbrev pub AsksPrimitive : Host → ℕ → ℕ → ℕ → Bool → Bool → ℕ → Type 0
AsksPrimitive h b n args implied handler at =
    let first = first_taken h b n args implied handler in
    let locals = frame_locals (body_in h.bodies b) in
    Asks h.machine 3 at (handed_receiver h.machine implied locals first) locals (first_handed implied first) (args + one_if handler)

-- What the words of a primitive do themselves: a sum or a difference of two integers that comes to one.
abbrev pub comes_to : Bool → Value → List Value → Bool
comes_to less (values.Int x) (values.Int y ∷ []) = is_small (if less then x -ℤ y else x +ℤ y)
comes_to less receiver arguments = false

abbrev pub is_summed : ℕ → ℕ → Message → Bool
is_summed name args m = is_sum name args && comes_to (nat_eq name INT_SUB.0) m.receiver m.arguments

-- so it is of the message of a primitive that is the next node of the current activity, or so it isn't
abbrev pub IsSummed : State → ℕ → ℕ → Bool → Bool → Bool → Type 0
IsSummed s name args implied handler is = (a : Activation) (older : List Activation) → slice_get s.activities s.current ≡ Some (Running (a ∷ older)) → is_summed name args (asked args implied handler (here_of s a older)) ≡ is

-- the address is that of the last word but one of a node's
abbrev pub IsTrapOf : Host → ℕ → ℕ → Node → ℕ → Type 0
IsTrapOf h b n node at = at + 8 ≡ h.machine.pc + 4 * length (poll ++ code_at h b n node)

-- A primitive's words do the source's step, or they ask for service 3, with receiver, arguments and handler in place.
pub data Performs (z : Sense) (h : Host) (s : State) (b n : ℕ) (name : Name) (args : ℕ) (implied handler : Bool) : Type 0 where
  InWords : IsSummed s name.0 args implied handler true → DoesStep z h s → Performs z h s b n name args implied handler
  ByService : IsSummed s name.0 args implied handler false → (at : ℕ) → IsTrapOf h b n (nodes.Prim name args implied handler) at → AsksPrimitive h b n args implied handler at → Performs z h s b n name args implied handler

abbrev pub WordsPerform : Type 0
WordsPerform = (name : Name) (args : ℕ) (implied handler : Bool) (z : Sense) (h : Host) (s : State) (b n : ℕ) → StandsFor z h s → RunsAt h b n (nodes.Prim name args implied handler) → CanGo h → Performs z h s b n name args implied handler

-- a node that ends an activation, which has no context and isn't the oldest of its activity
abbrev pub WordsAnswer : Node → Type 0
WordsAnswer node = (z : Sense) (h : Host) (s : State) (b n o : ℕ) → StandsFor z h s → (r : RunsAt h b n node) → CanGo h → owns_context (body_in h.bodies b) ≡ false → r.view.older ≡ suc o → DoesStep z h s

-- a node that reads an own local which its frame keeps
abbrev pub WordsRead : ℕ → Type 0
WordsRead slot = (z : Sense) (h : Host) (s : State) (b n : ℕ) → StandsFor z h s → RunsAt h b n (nodes.Read 0 slot) → CanGo h → owns_context (body_in h.bodies b) ≡ false → slot < frame_locals (body_in h.bodies b) → DoesStep z h s

-- a node that stores in an own local which its frame keeps
abbrev pub WordsStore : ℕ → Type 0
WordsStore slot = (z : Sense) (h : Host) (s : State) (b n : ℕ) → StandsFor z h s → RunsAt h b n (nodes.Store 0 slot) → CanGo h → owns_context (body_in h.bodies b) ≡ false → slot < frame_locals (body_in h.bodies b) → DoesStep z h s

-- So many instructions lead to service 9, with the answer in %o0. Where the activity has ended with that, machine and host stand for the
-- state after the step, which counts one step more.
pub record EndsActivity (z : Sense) (h : Host) (s : State) : Type 0 where
  pub instructions : ℕ
  pub few : instructions ≤ 512
  pub to : MachineState
  pub goes : Goes instructions h.machine to
  pub trap : IsTrap 9 to
  pub left : word_at to.memory 0x30000004 ≡ word_at h.machine.memory 0x30000004
  pub top : to.regs 6 ≡ h.machine.regs 6
  pub cost : to.regs 3 ≡ h.machine.regs 3
  pub sense : Sense
  pub hosted : IsHosted (with_machine h to)
  pub stands : StandsFor sense (answered (with_machine h to)) (step s).state
  pub counted : (step s).state.steps ≡ s.steps + 1
  pub silent : (step s).out ≡ []

-- a node that ends the oldest activation of an activity, which has no context
abbrev pub WordsEnd : Node → Type 0
WordsEnd node = (z : Sense) (h : Host) (s : State) (b n : ℕ) → StandsFor z h s → (r : RunsAt h b n node) → CanGo h → owns_context (body_in h.bodies b) ≡ false → r.view.older ≡ 0 → EndsActivity z h s
