-- What the answer of a primitive is, over the effect that its definition gives.
use Rattle.std.specs.Prelude.{◌≡◌, ℕ, ◌+◌, ◌*◌, ◌≤◌, List, [], ◌∷◌, ◌++◌, length, slice_set, slice_get, Some, ◌%◌}
use Rattle.self_terms.specs.declared.values.Value.{Value}
use Rattle.self_terms.specs.declared.values.Value.TheVariants as values
use Rattle.source_model.specs.declared.primitives.Primitive.{Primitive}
use Rattle.source_model.specs.declared.objects.Thing.{Thing}
use Rattle.source_model.specs.declared.objects.Core.{Core}
use Rattle.source_model.specs.State.{State}
use Rattle.source_model.specs.Primitives.{Effect, Gives, Makes, Puts, Prints, Fails, apply}
use Rattle.object_maps.specs.declared.layout.Heap.{Heap}
use Rattle.object_maps.specs.Slots.{Slots}
use Rattle.sparc_store.specs.Words.{Words}
use Rattle.heap_cells.specs.Laying.{Cells}
use Rattle.heap_cells.specs.Source.{Made}
use Rattle.heap_cells.specs.Standing.{Places, IsValue, AreValues}
use Rattle.heap_cells.specs.Heaps.{IsHeap, After}
use Rattle.prim_table.specs.Kinds.{kind_of, args_of}
use Rattle.prim_table.specs.declared.answers.CoreWords.{CoreWords}
use Rattle.prim_table.specs.declared.answers.PrimAnswer.{PrimAnswer}
use Rattle.prim_table.specs.declared.answers.PrimAnswer.TheVariants as answers

-- the words of the core objects
pub record HasCore (h : Cells) (p : Places) (core : Core) (words : CoreWords) : Type 0 where
  pub nil : IsValue h p (values.Object core.nil) words.nil
  pub yes : IsValue h p (values.Object core.yes) words.yes
  pub no : IsValue h p (values.Object core.no) words.no

-- references are no integers
abbrev pub AreTagged : Places → Type 0
AreTagged p = (n w : ℕ) → slice_get p.objects n ≡ Some w → w % 4 ≡ 1

-- an answer that changes nothing: the word of the value that is given, or the error
abbrev pub IsPlain : Cells → Places → PrimAnswer → Effect → Type 0
IsPlain h p (answers.Done w) (Gives v) = IsValue h p v w
IsPlain h p (answers.Fails x) (Fails y) = x ≡ y
IsPlain h p _ _ = ⊥

-- An answer, with memory and heap before and after. A value that is given, a print and an error change nothing; a new thing stands
-- behind the others, in so many words at the heap's top, and the answer is its reference; a thing that is put stands in the place of
-- one. A print and a thing that is put answer the receiver.
abbrev pub IsAnswer : List Slots → Words → Words → Heap → Heap → Cells → Places → List Thing → List Made → ℕ → PrimAnswer → Effect → Type 0
IsAnswer maps mem new heap heap_new h p things made receiver (answers.Done w) (Gives v) = IsValue h p v w × (new ≡ mem) × (heap_new ≡ heap)
IsAnswer maps mem new heap heap_new h p things made receiver (answers.Done w) (Makes words t) =
    After maps new heap_new h p (record p { objects = p.objects ++ w ∷ [] }) (things ++ t ∷ []) made × (heap_new.top ≡ heap.top + 4 * words)
IsAnswer maps mem new heap heap_new h p things made receiver (answers.Done w) (Puts o t) =
    After maps new heap_new h p p (slice_set things o t) made × (heap_new ≡ heap) × (w ≡ receiver)
IsAnswer maps mem new heap heap_new h p things made receiver (answers.Done w) (Prints line) = (w ≡ receiver) × (new ≡ mem) × (heap_new ≡ heap)
IsAnswer maps mem new heap heap_new h p things made receiver (answers.Fails x) (Fails y) = (x ≡ y) × (new ≡ mem) × (heap_new ≡ heap)
IsAnswer maps mem new heap heap_new h p things made receiver _ _ = ⊥

-- how many words an effect takes
abbrev pub cost : Effect → ℕ
cost (Makes words t) = words
cost _ = 0

-- the heap has room for an effect
abbrev pub HasRoom : Heap → Effect → Type 0
HasRoom heap e = heap.top + 4 * cost e ≤ 0x20000000 + 46137344

-- The words of a call stand for a primitive's operands, and the heap has room for what it comes to.
pub record CanApply (maps : List Slots) (core : CoreWords) (mem : Words) (heap : Heap) (prim : Primitive) (receiver : ℕ) (args : List ℕ) : Type 0 where
  pub cells : Cells
  pub places : Places
  pub made : List Made
  pub state : State
  pub is : IsHeap maps mem heap cells places state.things made
  pub known : HasCore cells places state.core core
  pub value : Value
  pub stands : IsValue cells places value receiver
  pub values : List Value
  pub stand : AreValues cells places values args
  pub takes : length args ≡ args_of (kind_of prim)
  pub room : HasRoom heap (apply state prim value values)

-- What an effect makes of the things, and the value that the primitive answers.
abbrev pub things_after : List Thing → Effect → List Thing
things_after things (Makes words t) = things ++ t ∷ []
things_after things (Puts o t) = slice_set things o t
things_after things _ = things

abbrev pub value_after : List Thing → Value → Effect → Value
value_after things receiver (Gives v) = v
value_after things receiver (Makes words t) = values.Object (length things)
value_after things receiver _ = receiver

-- The heap stands for the things after an effect, what stood for a value still does, and the word for the value that is answered.
pub record GoesOn (maps : List Slots) (new : Words) (heap heap_new : Heap) (h : Cells) (p : Places) (things : List Thing) (made : List Made) (receiver : Value) (w : ℕ) (e : Effect) : Type 0 where
  pub places : Places
  pub after : After maps new heap_new h p places (things_after things e) made
  pub stands : IsValue after.cells places (value_after things receiver e) w
  pub top : heap_new.top ≡ heap.top + 4 * cost e
