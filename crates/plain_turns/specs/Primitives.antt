-- Turns of primitives.
use Rattle.std.specs.Prelude.{◌≡◌, ◌⊎◌, ℕ, ◌+◌, ◌-◌, ◌<◌, ◌≤◌, Bool, false, List, ◌++◌, Some, None, slice_get}
use Rattle.self_terms.specs.declared.errors.ErrorName.{ErrorName}
use Rattle.self_terms.specs.declared.errors.ErrorName.TheVariants as errors
use Rattle.self_terms.specs.declared.names.Name.{Name}
use Rattle.self_terms.specs.declared.nodes.Node.TheVariants as nodes
use Rattle.self_terms.specs.declared.values.Value.{Value}
use Rattle.self_terms.specs.Depths.{one_if}
use Rattle.object_maps.specs.declared.layout.Heap.{Heap}
use Rattle.sparc_store.specs.Words.{Words, word_at, IsWithin}
use Rattle.source_model.specs.declared.objects.Core.{Core}
use Rattle.source_model.specs.declared.primitives.Primitive.{Primitive}
use Rattle.source_model.specs.Names.{text_named}
use Rattle.source_model.specs.Primitives.{apply}
use Rattle.source_model.specs.State.{State}
use Rattle.heap_cells.specs.Heaps.{IsHeap}
use Rattle.heap_cells.specs.Laying.{Cells}
use Rattle.heap_cells.specs.Source.{Made}
use Rattle.heap_cells.specs.Standing.{Places, IsValue, AreValues}
use Rattle.prim_table.specs.Answers.{CanApply, HasCore, IsAnswer, cost}
use Rattle.prim_table.specs.Operands.{Operand}
use Rattle.prim_table.specs.declared.answers.CoreWords.{CoreWords}
use Rattle.prim_table.specs.declared.answers.PrimAnswer.{PrimAnswer}
use Rattle.prim_table.specs.declared.answers.PrimAnswer.TheVariants as answers
use Rattle.plain_words.specs.Moves.{registers_from}
use Rattle.plain_runs.specs.Host.{Host}
use Rattle.plain_prims.specs.Performing.{printed_by}
use Rattle.plain_prims.specs.Rows.{primitive_of}
use Rattle.plain_prims.specs.Services.{heap_of, performs}
use Rattle.plain_unwinds.specs.Services.{fails_unmarked}
use Rattle.plain_turns.specs.Asking.{count, node_here, place_here, cost_left}
use Rattle.plain_turns.specs.Resting.{IsAtTrap, HasRun}
use Rattle.plain_turns.specs.Turns.{StepsOn}

-- At the trap of a primitive: its node; and a step is left of the goal.
pub record IsPrimitive (h : Host) (target : ℕ) : Type 0 where
  pub name : Name
  pub args : ℕ
  pub implied : Bool
  pub handler : Bool
  pub node_is : node_here h ≡ Some (nodes.Prim name args implied handler)
  pub few : args + one_if handler ≤ 5
  pub left : count h < target

abbrev pub PrimitivesAsk : Type 0
PrimitivesAsk = (h : Host) (from : State) (target : ℕ) (out : List ℕ) → IsAtTrap h 3 from target out → IsPrimitive h target

-- one whose name and number of arguments aren't a primitive's fails, where it has no handler
abbrev pub UndefinedEnd : Type 0
UndefinedEnd = (h : Host) (from : State) (target : ℕ) (out : List ℕ) → IsAtTrap h 3 from target out → (name : Name) (args : ℕ) (implied : Bool) → node_here h ≡ Some (nodes.Prim name args implied false) → primitive_of (text_named from.names name.0) args ≡ None → (goal : ℕ) → goal ≤ 1000000000
    → HasRun (fails_unmarked goal (cost_left h) errors.PrimitiveNotDefined (place_here h) h) from target out

-- The node is that of this primitive, with a handler or without, in a session whose state this is.
pub record IsOf (h : Host) (from : State) (p : Primitive) (args : ℕ) (handler : Bool) : Type 0 where
  pub name : Name
  pub implied : Bool
  pub node_is : node_here h ≡ Some (nodes.Prim name args implied handler)
  pub is : primitive_of (text_named from.names name.0) args ≡ Some p

-- the words of the objects that the language knows, by the references of units
pub record KnowsWords (h : Host) (core : Core) (words : CoreWords) : Type 0 where
  pub nil : words.nil ≡ h.references.nil
  pub yes : slice_get h.references.objects core.yes ≡ Some words.yes
  pub no : slice_get h.references.objects core.no ≡ Some words.no

-- What a primitive takes of the plain cost for the receiver in %o0, and what it prints for that, whatever state these words stand for.
abbrev pub Costs : Host → Primitive → ℕ → Type 0
Costs h p words = (heap : Heap) (cells : Cells) (places : Places) (made : List Made) (s : State) (v : Value) (vs : List Value) → IsHeap h.maps h.machine.memory heap cells places s.things made → IsValue cells places v (h.machine.regs 8) → words ≡ cost (apply s p v vs)

abbrev pub Says : Host → Primitive → List ℕ → Type 0
Says h p line = (heap : Heap) (cells : Cells) (places : Places) (made : List Made) (s : State) (v : Value) (vs : List Value) → IsHeap h.maps h.machine.memory heap cells places s.things made → IsValue cells places v (h.machine.regs 8) → printed_by (apply s p v vs) ≡ line

-- The operands may be looked at; and where the cost is within its limit, the primitive may be applied to them.
pub record MayApply (h : Host) (p : Primitive) (args : ℕ) (core : CoreWords) : Type 0 where
  pub operand : Operand h.maps h.machine.memory (heap_of h) (h.machine.regs 8)
  pub few : h.next < 500000000
  pub apply : (words : ℕ) → Costs h p words → h.cost + h.machine.regs 3 + words ≤ 4194304 → CanApply h.maps core h.machine.memory (heap_of h) p (h.machine.regs 8) (registers_from h.machine.regs 9 args)

abbrev pub PrimitivesMayApply : Type 0
PrimitivesMayApply = (h : Host) (from : State) (target : ℕ) (out : List ℕ) → IsAtTrap h 3 from target out → (p : Primitive) (args : ℕ) (handler : Bool) → IsOf h from p args handler → (core : CoreWords) → KnowsWords h from.core core → MayApply h p args core

-- It was applied, and has left this memory and this heap: what it answers is right whatever state these words stand for.
pub record WasApplied (h : Host) (p : Primitive) (args : ℕ) (core : CoreWords) (memory : Words) (heap : Heap) (answer : PrimAnswer) : Type 0 where
  pub answers : (cells : Cells) (places : Places) (made : List Made) (s : State) (v : Value) (vs : List Value) → IsHeap h.maps h.machine.memory (heap_of h) cells places s.things made → HasCore cells places s.core core
      → IsValue cells places v (h.machine.regs 8) → AreValues cells places vs (registers_from h.machine.regs 9 args)
      → IsAnswer h.maps h.machine.memory memory (heap_of h) heap cells places s.things made (h.machine.regs 8) answer (apply s p v vs)
  pub outside : (b : ℕ) → (b < 0x20000000) ⊎ (heap.top ≤ b) → word_at memory b ≡ word_at h.machine.memory b
  pub within : IsWithin memory

-- More words than are left of the plain cost: the store is full.
abbrev pub FullsEnd : Type 0
FullsEnd = (h : Host) (from : State) (target : ℕ) (out : List ℕ) → IsAtTrap h 3 from target out → (p : Primitive) (args : ℕ) (handler : Bool) → IsOf h from p args handler → (words : ℕ) → Costs h p words → 4194304 < h.cost + h.machine.regs 3 + words → (goal : ℕ) → goal ≤ 1000000000
    → HasRun (fails_unmarked goal (cost_left h) errors.StoreFull (place_here h) h) from target out

-- It has failed, and left all as it was; with no handler that ends the run.
abbrev pub FailuresKeep : Type 0
FailuresKeep = (h : Host) (from : State) (target : ℕ) (out : List ℕ) → IsAtTrap h 3 from target out → (p : Primitive) (args : ℕ) (handler : Bool) → IsOf h from p args handler → (core : CoreWords) → KnowsWords h from.core core
    → (memory : Words) (heap : Heap) (e : ErrorName) → WasApplied h p args core memory heap (answers.Fails e) → memory ≡ h.machine.memory

abbrev pub FailuresEnd : Type 0
FailuresEnd = (h : Host) (from : State) (target : ℕ) (out : List ℕ) → IsAtTrap h 3 from target out → (p : Primitive) (args : ℕ) → IsOf h from p args false → (core : CoreWords) → KnowsWords h from.core core
    → (memory : Words) (heap : Heap) (e : ErrorName) → WasApplied h p args core memory heap (answers.Fails e) → (goal : ℕ) → goal ≤ 1000000000 → HasRun (fails_unmarked goal (cost_left h) e (place_here h) h) from target out

-- It has answered a word; the words behind the trap do the step, which prints its line.
pub record PrimitiveTurns (h : Host) (from : State) (target : ℕ) (out : List ℕ) (memory : Words) (heap : Heap) (words word : ℕ) (line : List ℕ) : Type 0 where
  pub on : StepsOn h (performs (target - count h - 1) (cost_left h - words) memory heap words word h) from target (out ++ line)
  pub objects : heap.next ≤ h.next + 1

abbrev pub AnswersTurn : Type 0
AnswersTurn = (h : Host) (from : State) (target : ℕ) (out : List ℕ) → IsAtTrap h 3 from target out → (p : Primitive) (args : ℕ) (handler : Bool) → IsOf h from p args handler → (core : CoreWords) → KnowsWords h from.core core → (words : ℕ) → Costs h p words → h.cost + h.machine.regs 3 + words ≤ 4194304
    → (memory : Words) (heap : Heap) (word : ℕ) → WasApplied h p args core memory heap (answers.Done word) → (line : List ℕ) → Says h p line → PrimitiveTurns h from target out memory heap words word line
