-- How machine and host are reached: by instructions and services alone.
use Rattle.std.specs.Prelude.{◌≡◌, ℕ, ◌+◌, ◌-◌, ◌*◌, ◌<◌, ◌≤◌, Bool, true, false, Some, None, slice_get}
use Rattle.self_terms.specs.declared.errors.ErrorName.{ErrorName}
use Rattle.self_terms.specs.declared.errors.ErrorName.TheVariants as errors
use Rattle.self_terms.specs.declared.names.Name.{Name}
use Rattle.self_terms.specs.declared.nodes.Node.TheVariants as nodes
use Rattle.self_terms.specs.declared.values.BodyId.{BodyId}
use Rattle.object_maps.specs.declared.layout.Heap.{Heap}
use Rattle.object_maps.specs.declared.maps.SlotKind.TheVariants.{Assign, Method}
use Rattle.sparc_machine.specs.State.{MachineState}
use Rattle.sparc_store.specs.Words.{Words}
use Rattle.slot_lookup.specs.declared.sends.Found.{Found}
use Rattle.slot_lookup.specs.declared.sends.Found.TheVariants.{One}
use Rattle.source_model.specs.declared.primitives.Primitive.{Primitive}
use Rattle.plain_words.specs.Going.{Goes, IsTrap}
use Rattle.plain_runs.specs.Host.{Host}
use Rattle.plain_runs.specs.Services.{data_answers, assigns, calls, with_unit, waits, ends}
use Rattle.plain_runs.specs.Course.{with_machine}
use Rattle.plain_sends.specs.Found.{data_word}
use Rattle.plain_answers.specs.Found.{error_of}
use Rattle.plain_answers.specs.Whole.{whole}
use Rattle.prim_table.specs.declared.answers.CoreWords.{CoreWords}
use Rattle.prim_table.specs.declared.answers.PrimAnswer.TheVariants as answers
use Rattle.plain_prims.specs.Services.{performs}
use Rattle.plain_served.specs.Serving.{refusal}
use Rattle.plain_units.specs.Putting.{IsPut}
use Rattle.plain_unwinds.specs.Services.{fails_unmarked, unwinds}
use Rattle.plain_turns.specs.Asking.{node_here, place_here, found_here, goes_back}
use Rattle.plain_turns.specs.Handlers.{handed, found_there}
use Rattle.plain_turns.specs.Primitives.{Costs, WasApplied}

-- What answers a message, by what a lookup has found for it: data; an assignment slot; a method, which is called, or gets a unit first, and then the node's
-- words begin again; or nothing does, or the method is refused, and the activity ends.
pub data Meets (h : Host) (found : Found) : Host → Type 0 where
  Answers : (goal cost word : ℕ) → data_word (whole h) found ≡ Some word → Meets h found (data_answers goal cost word h)
  Assigns : (goal cost holder place : ℕ) → found ≡ One holder (Assign place) → Meets h found (assigns goal cost (holder + 7 + 4 * place) h)
  Calls : (goal cost holder at : ℕ) (c : BodyId) → found ≡ One holder (Method c) → slice_get h.entries (c.0 - 1) ≡ Some at → refusal h c.0 ≡ None → Meets h found (calls goal cost at holder h)
  Puts : (goal cost holder back : ℕ) (c : BodyId) (memory : Words) → found ≡ One holder (Method c) → IsPut h c.0 memory → Meets h found (goes_back back goal cost (with_unit c.0 memory h))
  Misses : (goal cost : ℕ) (e : ErrorName) → error_of found ≡ Some e → Meets h found (fails_unmarked goal cost e (place_here h) h)
  Refuses : (goal cost holder : ℕ) (c : BodyId) (e : ErrorName) → found ≡ One holder (Method c) → refusal h c.0 ≡ Some e → Meets h found (fails_unmarked goal cost e (place_here h) h)

-- A service: 2 at a poll where a run begins or ends; 1 at a message, by what a lookup finds that has room for all objects; 3 at a primitive, which was
-- applied and has answered, or has failed and ends the activity or hands a message over to its handler, or can't be paid, or isn't one; 4 at a return from
-- a home method; 8 at a block that can't be paid; 9 where the oldest activation has answered.
pub data Serves (h : Host) : Host → Type 0 where
  Begins : (goal cost : ℕ) → Serves h (goes_back 0 goal cost h)
  Waits : IsTrap 2 h.machine → (goal cost : ℕ) → Serves h (waits goal cost h)
  Sends : IsTrap 1 h.machine → (room : ℕ) (to : Host) → h.next ≤ room → Meets h (found_here room h) to → Serves h to
  Performs : IsTrap 3 h.machine → (goal cost : ℕ) (name : Name) (args : ℕ) (implied handler : Bool) (p : Primitive) (core : CoreWords) (memory : Words) (heap : Heap) (words word : ℕ) → node_here h ≡ Some (nodes.Prim name args implied handler) → Costs h p words
      → WasApplied h p args core memory heap (answers.Done word) → Serves h (performs goal cost memory heap words word h)
  Fails : IsTrap 3 h.machine → (goal cost : ℕ) (name : Name) (args : ℕ) (implied : Bool) (p : Primitive) (core : CoreWords) (memory : Words) (heap : Heap) (e : ErrorName) → node_here h ≡ Some (nodes.Prim name args implied false)
      → WasApplied h p args core memory heap (answers.Fails e) → Serves h (fails_unmarked goal cost e (place_here h) h)
  Lacks : IsTrap 3 h.machine → (goal cost : ℕ) (name : Name) (args : ℕ) (implied : Bool) → node_here h ≡ Some (nodes.Prim name args implied false) → Serves h (fails_unmarked goal cost errors.PrimitiveNotDefined (place_here h) h)
  Exceeds : IsTrap 3 h.machine → (goal cost : ℕ) (p : Primitive) (words : ℕ) → Costs h p words → 4194304 < h.cost + h.machine.regs 3 + words → Serves h (fails_unmarked goal cost errors.StoreFull (place_here h) h)
  Hands : IsTrap 3 h.machine → (room message : ℕ) (name : Name) (args : ℕ) (implied : Bool) (error primitive : ℕ) (to : Host) → h.next ≤ room → node_here h ≡ Some (nodes.Prim name args implied true)
      → Meets (handed args error primitive h) (found_there room message (handed args error primitive h)) to → Serves h to
  Returns : IsTrap 4 h.machine → (goal cost : ℕ) → Serves h (unwinds goal cost h)
  Fills : IsTrap 8 h.machine → (goal cost : ℕ) → Serves h (fails_unmarked goal cost errors.StoreFull (place_here h) h)
  Ends : IsTrap 9 h.machine → (goal cost : ℕ) → Serves h (ends goal cost h)

-- So many instructions and services lead from one to the other.
pub data Reaches (h : Host) : ℕ → ℕ → Host → Type 0 where
  Here : Reaches h 0 0 h
  Steps : (i v n : ℕ) (g : Host) (m : MachineState) → Reaches h i v g → Goes n g.machine m → Reaches h (i + n) v (with_machine g m)
  Services : (i v : ℕ) (g next : Host) → Reaches h i v g → Serves g next → Reaches h i (v + 1) next
