-- Primitives that fail and have a handler.
use Rattle.std.specs.Prelude.{◌≡◌, ℕ, ◌+◌, ◌<◌, ◌≤◌, Bool, true, length, Some, None, slice_get, codes}
use Rattle.self_terms.specs.declared.errors.ErrorName.{ErrorName}
use Rattle.self_terms.specs.declared.names.Name.{Name}
use Rattle.self_terms.specs.declared.nodes.Node.TheVariants as nodes
use Rattle.self_terms.specs.declared.values.BodyId.{BodyId}
use Rattle.self_terms.specs.declared.values.Value.{Value}
use Rattle.sparc_store.specs.Windows.{with_reg}
use Rattle.sparc_machine.specs.State.{MachineState}
use Rattle.slot_lookup.specs.Lookup.{found_from}
use Rattle.source_model.specs.declared.objects.Content.TheVariants.{Assignment, Method}
use Rattle.source_model.specs.Formed.{IsWellFormed}
use Rattle.source_model.specs.Messages.{Holds, meets}
use Rattle.source_model.specs.Names.{number_of, text_named}
use Rattle.source_model.specs.Primitives.{Fails as Failure, row_of, error_string, row_string}
use Rattle.source_model.specs.Soundness.{Accepts}
use Rattle.source_model.specs.State.{State}
use Rattle.source_model.specs.Step.{handler_of}
use Rattle.heap_cells.specs.Standing.{IsValue}
use Rattle.raw_steps.specs.Messages.{asked}
use Rattle.raw_steps.specs.Sends.{here_of}
use Rattle.raw_steps.specs.Stands.{Sense}
use Rattle.plain_runs.specs.Host.{Host, heap_words}
use Rattle.plain_runs.specs.Sound.{RunsAt}
use Rattle.plain_steps.specs.Steps.{StandsFor}
use Rattle.plain_sends.specs.Messages.{IsMessaged}
use Rattle.plain_lookups.specs.Telling.{MayLook, FoundTells}
use Rattle.plain_prims.specs.Asking.{IsPerformed}
use Rattle.plain_prims.specs.Rows.{effect_of}

-- the name of the message that a handler gets
abbrev pub failure_name : State → ℕ
failure_name s = number_of s.names (codes "value:With:")

-- the machine with that message in place of the primitive's: to a handler, with the strings of the error and of the primitive
abbrev pub hands_over : ℕ → ℕ → ℕ → MachineState → MachineState
hands_over handler error primitive m = record m { regs = with_reg (with_reg (with_reg m.regs 8 handler) 9 error) 10 primitive }

-- the words of both strings, by the references of units
pub record KnowsStrings (h : Host) (s : State) (name : Name) (args : ℕ) (e : ErrorName) (error primitive : ℕ) : Type 0 where
  pub of_error : slice_get h.references.objects (s.fixed + error_string e) ≡ Some error
  pub of_primitive : slice_get h.references.objects (s.fixed + row_string (row_of (text_named s.names name.0) args)) ≡ Some primitive

-- The handler of a primitive that failed is sent that message: with its words in place the machine is at the trap as at that of a node which sends.
pub record IsHandled (z : Sense) (h : Host) (s : State) (b n : ℕ) (name : Name) (args : ℕ) (implied handler : Bool) (r : RunsAt h b n (nodes.Prim name args implied handler)) (q : IsPerformed z h s b n name args implied handler r) (error primitive : ℕ) : Type 0 where
  pub value : Value
  pub handler_is : handler_of handler (here_of s q.sender q.older) ≡ Some value
  pub stands : IsValue z.cells z.places value (q.asks.to.regs (9 + args))
  pub sent : IsMessaged z h s b n (nodes.Prim name args implied handler) 2 (failure_name s) (meets s value (failure_name s)) r (hands_over (q.asks.to.regs (9 + args)) error primitive q.asks.to)
  pub sender_is : sent.sender ≡ q.sender
  pub receives : sent.message.receiver ≡ value

-- each primitive that fails and has a handler is such
abbrev pub FailuresAreHandled : Type 0
FailuresAreHandled = (z : Sense) (h : Host) (s : State) (b n : ℕ) (name : Name) (args : ℕ) (implied handler : Bool) (r : RunsAt h b n (nodes.Prim name args implied handler)) (q : IsPerformed z h s b n name args implied handler r) → StandsFor z h s
    → (e : ErrorName) → effect_of s name args (asked args implied handler (here_of s q.sender q.older)) ≡ Failure e → handler ≡ true → (error primitive : ℕ) → KnowsStrings h s name args e error primitive
    → IsHandled z h s b n name args implied handler r q error primitive

-- A lookup of a name from the word of a value in %o0 may be made over the machine's memory, with room for so many objects; what it finds tells what a
-- message to the value meets, and it finds the same over the words of the heap.
pub record IsFoundFrom (z : Sense) (h : Host) (s : State) (to : MachineState) (v : Value) (name room : ℕ) : Type 0 where
  pub may : MayLook h.maps to.memory room (to.regs 8)
  pub tells : FoundTells z h s to.memory (Some v) (to.regs 8) name (found_from h.maps to.memory room (to.regs 8) name) (meets s v name)
  pub heap : found_from h.maps (heap_words to.memory) room (to.regs 8) name ≡ found_from h.maps to.memory room (to.regs 8) name

-- so it is of a handler and its message
abbrev pub HandlersAreFound : Type 0
HandlersAreFound = (z : Sense) (h : Host) (s : State) (b n : ℕ) (name : Name) (args : ℕ) (implied handler : Bool) (r : RunsAt h b n (nodes.Prim name args implied handler)) (q : IsPerformed z h s b n name args implied handler r) → StandsFor z h s
    → (error primitive : ℕ) (g : IsHandled z h s b n name args implied handler r q error primitive) (room : ℕ) → length s.things ≤ room
    → IsFoundFrom z h s (hands_over (q.asks.to.regs (9 + args)) error primitive q.asks.to) g.value (failure_name s) room

-- In a well-formed state the method of an object that it meets has a body of two arguments, and it meets no assignment slot.
abbrev pub HandlersFit : Type 0
HandlersFit = (z : Sense) (h : Host) (s : State) (b n : ℕ) (name : Name) (args : ℕ) (implied handler : Bool) (r : RunsAt h b n (nodes.Prim name args implied handler)) (q : IsPerformed z h s b n name args implied handler r) → StandsFor z h s → IsWellFormed s
    → (error primitive : ℕ) (g : IsHandled z h s b n name args implied handler r q error primitive)
    → ((o : ℕ) (c : BodyId) → meets s g.value (failure_name s) ≡ Holds o (Method c) → o < length s.things → Accepts h.bodies c.0 2 None) × ((o : ℕ) → meets s g.value (failure_name s) ≡ Holds o Assignment → ⊥)
