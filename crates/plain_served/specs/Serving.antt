-- The tests of the host before it calls a method that a message has met.
use Rattle.std.specs.Prelude.{◌≡◌, ℕ, ◌+◌, ◌<◌, ◌≤◌, Bool, true, false, not, nat_lt, nat_le, ◌&&◌, if◌then◌else◌, length, Option, Some, None, Err}
use Rattle.self_terms.specs.declared.errors.ErrorName.{ErrorName}
use Rattle.self_terms.specs.declared.errors.ErrorName.TheVariants as errors
use Rattle.self_terms.specs.declared.nodes.Node.{Node}
use Rattle.self_terms.specs.declared.values.BodyId.{BodyId}
use Rattle.self_terms.specs.declared.values.Value.{Value}
use Rattle.object_maps.specs.declared.maps.SlotKind.TheVariants.{Method}
use Rattle.slot_lookup.specs.declared.sends.Found.{Found}
use Rattle.slot_lookup.specs.declared.sends.Found.TheVariants.{One}
use Rattle.sparc_store.specs.Words.{word_at}
use Rattle.sparc_machine.specs.State.{MachineState}
use Rattle.source_model.specs.Messages.{Met}
use Rattle.source_model.specs.Soundness.{body_in}
use Rattle.source_model.specs.State.{State}
use Rattle.source_model.specs.Step.{done}
use Rattle.raw_steps.specs.Sends.{here_of}
use Rattle.raw_steps.specs.Stands.{Sense}
use Rattle.plain_words.specs.Moves.{IsContext}
use Rattle.plain_words.specs.Units.{owns_context, of_block}
use Rattle.plain_runs.specs.Host.{Host}
use Rattle.plain_runs.specs.Units.{HasUnit}
use Rattle.plain_runs.specs.Sound.{RunsAt}
use Rattle.plain_runs.specs.Course.{with_machine, CanGo}
use Rattle.plain_runs.specs.Services.{calls}
use Rattle.plain_steps.specs.Paying.{IsPaid, HasMaps}
use Rattle.plain_steps.specs.Steps.{StandsFor, DoesStep}
use Rattle.plain_sends.specs.Messages.{IsMessaged}
use Rattle.plain_answers.specs.Found.{IsMethod}
use Rattle.plain_lookups.specs.Telling.{IsEvaluated, FoundTells}
use Rattle.plain_evaluates.specs.Evaluates.{context_words}
use Rattle.plain_evaluates.specs.Refusing.{is_live}

-- the error with which the host refuses to call a method of a body, where it refuses it
abbrev pub is_gone : Host → ℕ → Bool
is_gone h b = of_block (body_in h.bodies b) && not (is_live h.machine)

abbrev pub is_deep : Host → Bool
is_deep h = nat_le 4096 (h.machine.regs 4)

abbrev pub is_costly : Host → ℕ → Bool
is_costly h b = owns_context (body_in h.bodies b) && nat_lt 4194304 (h.cost + h.machine.regs 3 + context_words h b)

abbrev pub refusal : Host → ℕ → Option ErrorName
refusal h b =
    if is_gone h b then Some errors.NonLifoBlock
    else if is_deep h then Some errors.StackOverflow
    else if is_costly h b then Some errors.StoreFull
    else None

-- the words that the test of a block's mark reads are there
abbrev pub MayTestMark : Host → ℕ → Type 0
MayTestMark h b = of_block (body_in h.bodies b) ≡ true → IsContext (h.machine.regs 8) 0 × IsContext (word_at h.machine.memory (h.machine.regs 8 + 7)) 0

-- The body of the method that was found can be called for the message: its unit stands at an address, it has nodes and as many arguments, and it is
-- a block's just where a block's own method was met.
pub record IsCallable (z : Sense) (h : Host) (s : State) (args name : ℕ) (met : Met) (to : MachineState) (receiver : Option Value) (holder : ℕ) (c : BodyId) (at : ℕ) : Type 0 where
  pub unit : HasUnit h c.0 at
  pub some : 0 < length (body_in h.bodies c.0).nodes
  pub same : length (body_in h.bodies c.0).arguments ≡ args
  pub method : IsMethod z s met holder c → of_block (body_in h.bodies c.0) ≡ false
  pub block : IsEvaluated z s receiver met name holder c (to.regs 8) → of_block (body_in h.bodies c.0) ≡ true

-- The tests may be made, what they say is so, and what they let through does the step, whatever the host leaves of goal and plain cost.
pub record IsServed (z : Sense) (h : Host) (s : State) (b n : ℕ) (node : Node) (args name : ℕ) (met : Met) (r : RunsAt h b n node) (to : MachineState) (q : IsMessaged z h s b n node args name met r to) (holder : ℕ) (c : BodyId) (at : ℕ) : Type 0 where
  pub mark : MayTestMark (with_machine h to) c.0
  pub refused : (e : ErrorName) → refusal (with_machine h to) c.0 ≡ Some e → done (here_of s q.sender q.older) node ≡ Err e
  pub called : refusal (with_machine h to) c.0 ≡ None → (goal cost : ℕ) → goal ≤ 1000000000 → DoesStep z (calls goal cost at holder (with_machine h to)) s

-- So it is where a lookup for a message has found a method, which tells what the message meets; a block that it evaluates is the message's receiver.
abbrev pub MethodsAreServed : Type 0
MethodsAreServed = (start : ℕ) (z : Sense) (h : Host) (s : State) (b n : ℕ) (node : Node) (args name : ℕ) (met : Met) (r : RunsAt h b n node) (to : MachineState) (q : IsMessaged z h s b n node args name met r to) → StandsFor z h s → CanGo h → IsPaid start h → HasMaps h → args ≤ 5
    → (receiver : Option Value) → ((v : Value) → receiver ≡ Some v → q.message.receiver ≡ v) → (found : Found) → FoundTells z h s to.memory receiver (to.regs 8) name found met
    → (holder : ℕ) (c : BodyId) (at : ℕ) → found ≡ One holder (Method c) → IsCallable z h s args name met to receiver holder c at → IsServed z h s b n node args name met r to q holder c at
