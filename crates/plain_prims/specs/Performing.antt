-- Primitives that have an answer.
use Rattle.std.specs.Prelude.{◌≡◌, ◌⊎◌, ℕ, ◌+◌, ◌*◌, ◌<◌, ◌≤◌, Bool, List, [], slice_get, Some}
use Rattle.self_terms.specs.declared.names.Name.{Name}
use Rattle.self_terms.specs.declared.nodes.Node.{Node}
use Rattle.self_terms.specs.declared.nodes.Node.TheVariants as nodes
use Rattle.sparc_store.specs.Words.{Words, word_at, IsWithin}
use Rattle.sparc_machine.specs.State.{MachineState}
use Rattle.object_maps.specs.declared.layout.Heap.{Heap}
use Rattle.source_model.specs.declared.primitives.Primitive.{Primitive}
use Rattle.source_model.specs.Names.{text_named}
use Rattle.source_model.specs.Primitives.{Effect, Prints}
use Rattle.source_model.specs.State.{State}
use Rattle.source_model.specs.Step.{step}
use Rattle.heap_cells.specs.Heaps.{IsHeap}
use Rattle.heap_cells.specs.Standing.{IsValue, AreValues}
use Rattle.prim_table.specs.Answers.{HasRoom, IsAnswer, CanApply, cost}
use Rattle.prim_table.specs.declared.answers.CoreWords.{CoreWords}
use Rattle.prim_table.specs.declared.answers.PrimAnswer.{PrimAnswer}
use Rattle.prim_table.specs.declared.answers.PrimAnswer.TheVariants.{Done}
use Rattle.raw_steps.specs.Messages.{asked}
use Rattle.raw_steps.specs.Sends.{here_of}
use Rattle.raw_steps.specs.Stands.{Sense}
use Rattle.plain_words.specs.Going.{Goes}
use Rattle.plain_words.specs.Moves.{registers_from}
use Rattle.plain_runs.specs.Host.{Host}
use Rattle.plain_runs.specs.Sound.{RunsAt, IsHosted}
use Rattle.plain_runs.specs.Course.{with_machine, CanGo}
use Rattle.plain_steps.specs.Steps.{StandsFor, DoesStep}
use Rattle.plain_prims.specs.Asking.{IsPerformed}
use Rattle.plain_prims.specs.Rows.{primitive_of, effect_of}
use Rattle.plain_prims.specs.Services.{heap_of, performs}

-- what an effect prints
abbrev pub printed_by : Effect → List ℕ
printed_by (Prints line) = line
printed_by _ = []

-- The words of `nil`, `true` and `false`, by the references of units.
pub record KnowsCore (h : Host) (s : State) (core : CoreWords) : Type 0 where
  pub nil : core.nil ≡ h.references.nil
  pub yes : slice_get h.references.objects s.core.yes ≡ Some core.yes
  pub no : slice_get h.references.objects s.core.no ≡ Some core.no

-- At the trap of a primitive the heap stands in the machine's memory, and so do the words of its operands for its message.
abbrev pub OperandsStand : Type 0
OperandsStand = (z : Sense) (h : Host) (s : State) (b n : ℕ) (name : Name) (args : ℕ) (implied handler : Bool) (r : RunsAt h b n (nodes.Prim name args implied handler)) (q : IsPerformed z h s b n name args implied handler r) → StandsFor z h s
    → (let m = asked args implied handler (here_of s q.sender q.older) in
    IsHeap h.maps q.asks.to.memory (heap_of (with_machine h q.asks.to)) z.cells z.places s.things z.made
    × IsValue z.cells z.places m.receiver (q.asks.to.regs 8) × AreValues z.cells z.places m.arguments (registers_from q.asks.to.regs 9 args))

-- Of a primitive of the table the operands' words may be applied there, where the heap has room for what it comes to.
abbrev pub OperandsApply : Type 0
OperandsApply = (z : Sense) (h : Host) (s : State) (b n : ℕ) (name : Name) (args : ℕ) (implied handler : Bool) (r : RunsAt h b n (nodes.Prim name args implied handler)) (q : IsPerformed z h s b n name args implied handler r) → StandsFor z h s
    → (core : CoreWords) → KnowsCore h s core → (p : Primitive) → primitive_of (text_named s.names name.0) args ≡ Some p
    → HasRoom (heap_of (with_machine h q.asks.to)) (effect_of s name args (asked args implied handler (here_of s q.sender q.older)))
    → CanApply h.maps core q.asks.to.memory (heap_of (with_machine h q.asks.to)) p (q.asks.to.regs 8) (registers_from q.asks.to.regs 9 args)

-- The heap has room where the plain cost has, if its top is no higher than some place and the words of the cost behind it, and the whole plain cost
-- fits behind that place.
abbrev pub CostsLeaveRoom : Type 0
CostsLeaveRoom = (h : Host) (s : State) (start : ℕ) (e : Effect) → h.machine.regs 6 ≤ start + 4 * s.cost → start + 4 * 4194304 ≤ 0x20000000 + 46137344 → s.cost + cost e ≤ 4194304 → HasRoom (heap_of h) e

-- A primitive was applied to the word of a receiver, in the place of an effect: memory and heap are now these, with nothing changed outside the heap.
pub record IsApplied (z : Sense) (h : Host) (s : State) (m : MachineState) (memory : Words) (heap : Heap) (answer : PrimAnswer) (e : Effect) : Type 0 where
  pub answers : IsAnswer h.maps m.memory memory (heap_of (with_machine h m)) heap z.cells z.places s.things z.made (m.regs 8) answer e
  pub outside : (b : ℕ) → (b < 0x20000000) ⊎ (heap.top ≤ b) → word_at memory b ≡ word_at m.memory b
  pub within : IsWithin memory

-- So many instructions do the step, and these bytes are printed: as `DoesStep` (specs/Steps.antt of plain_steps), but for them.
pub record DoesPrint (h : Host) (s : State) (out : List ℕ) : Type 0 where
  pub instructions : ℕ
  pub few : instructions ≤ 512
  pub to : MachineState
  pub goes : Goes instructions h.machine to
  pub hosted : IsHosted (with_machine h to)
  pub goal : word_at to.memory 0x30000000 ≡ word_at h.machine.memory 0x30000000
  pub left : word_at to.memory 0x30000004 ≡ word_at h.machine.memory 0x30000004
  pub paid : to.regs 6 + 4 * h.machine.regs 3 ≡ h.machine.regs 6 + 4 * to.regs 3
  pub body : ℕ
  pub number : ℕ
  pub next : Node
  pub runs : RunsAt (with_machine h to) body number next
  pub sense : Sense
  pub stands : StandsFor sense (with_machine h to) (step s).state
  pub counted : (step s).state.steps ≡ s.steps + 1
  pub printed : (step s).out ≡ out

-- where nothing is printed, they do the step
abbrev pub SilentStep : Type 0
SilentStep = (z : Sense) (h : Host) (s : State) → DoesPrint h s [] → DoesStep z h s

-- Where the primitive was applied and has answered a word, and its words of plain cost fit, the words behind the service do the source's step, whatever
-- the service leaves of goal and plain cost.
abbrev pub AnswersPerform : Type 0
AnswersPerform = (z : Sense) (h : Host) (s : State) (b n : ℕ) (name : Name) (args : ℕ) (implied handler : Bool) (r : RunsAt h b n (nodes.Prim name args implied handler)) (q : IsPerformed z h s b n name args implied handler r) → StandsFor z h s → CanGo h
    → (memory : Words) (heap : Heap) (word : ℕ) (e : Effect) → effect_of s name args (asked args implied handler (here_of s q.sender q.older)) ≡ e → IsApplied z h s q.asks.to memory heap (Done word) e → s.cost + cost e ≤ 4194304
    → (goal left : ℕ) → goal ≤ 1000000000 → DoesPrint (performs goal left memory heap (cost e) word (with_machine h q.asks.to)) s (printed_by e)

-- and what the service left of the goal is in its place
abbrev pub GoalIsLeft : Type 0
GoalIsLeft = (z : Sense) (h : Host) (s : State) (b n : ℕ) (name : Name) (args : ℕ) (implied handler : Bool) (r : RunsAt h b n (nodes.Prim name args implied handler)) (q : IsPerformed z h s b n name args implied handler r)
    → (memory : Words) (heap : Heap) (word : ℕ) (answer : PrimAnswer) (e : Effect) → IsApplied z h s q.asks.to memory heap answer e
    → (goal left : ℕ) → word_at (performs goal left memory heap (cost e) word (with_machine h q.asks.to)).machine.memory 0x30000000 ≡ goal
