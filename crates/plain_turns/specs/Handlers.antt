-- Turns of primitives that fail and have a handler: the host puts a message to the handler in place of the primitive's, and what that meets answers it
-- in the same step.
use Rattle.std.specs.Prelude.{◌≡◌, ◌≢◌, ℕ, ◌+◌, ◌-◌, ◌*◌, ◌<◌, ◌≤◌, Bool, true, if◌then◌else◌, List, length, Some, None, slice_get}
use Rattle.self_terms.specs.declared.errors.ErrorName.{ErrorName}
use Rattle.self_terms.specs.declared.errors.ErrorName.TheVariants as errors
use Rattle.self_terms.specs.declared.names.Name.{Name}
use Rattle.self_terms.specs.declared.nodes.Node.TheVariants as nodes
use Rattle.self_terms.specs.declared.values.BodyId.{BodyId}
use Rattle.object_maps.specs.declared.layout.Heap.{Heap}
use Rattle.object_maps.specs.declared.maps.SlotKind.TheVariants.{Assign, Field, Method}
use Rattle.slot_lookup.specs.Lookup.{found_from}
use Rattle.slot_lookup.specs.declared.sends.Found.{Found}
use Rattle.slot_lookup.specs.declared.sends.Found.TheVariants.{One}
use Rattle.sparc_store.specs.Words.{Words, HasWord}
use Rattle.source_model.specs.declared.primitives.Primitive.{Primitive}
use Rattle.source_model.specs.Names.{text_named}
use Rattle.source_model.specs.Soundness.{body_in}
use Rattle.source_model.specs.State.{State}
use Rattle.prim_table.specs.declared.answers.CoreWords.{CoreWords}
use Rattle.prim_table.specs.declared.answers.PrimAnswer.TheVariants as answers
use Rattle.plain_words.specs.Code.{is_sum}
use Rattle.plain_words.specs.Units.{unit_code}
use Rattle.plain_runs.specs.Host.{Host}
use Rattle.plain_runs.specs.Course.{with_machine}
use Rattle.plain_runs.specs.Services.{data_answers, calls, with_unit, next_unit}
use Rattle.plain_sends.specs.Found.{data_word}
use Rattle.plain_answers.specs.Found.{error_of}
use Rattle.plain_answers.specs.Whole.{whole}
use Rattle.plain_lookups.specs.Telling.{MayLook}
use Rattle.plain_prims.specs.Rows.{primitive_of}
use Rattle.plain_handlers.specs.Handling.{failure_name, hands_over, KnowsStrings}
use Rattle.plain_served.specs.Serving.{refusal, MayTestMark}
use Rattle.plain_units.specs.Putting.{IsPut}
use Rattle.plain_unwinds.specs.Services.{fails_unmarked}
use Rattle.plain_turns.specs.Asking.{count, node_here, place_here, behind_poll, goes_back, cost_left}
use Rattle.plain_turns.specs.Primitives.{KnowsWords, WasApplied}
use Rattle.plain_turns.specs.Resting.{IsAtTrap, HasRun}
use Rattle.plain_turns.specs.Turns.{StepsOn, IsThere, BeginsAgain}

-- Why a primitive fails with an error: its name and number of arguments aren't a primitive's, or it was applied and has failed.
pub data Fails (h : Host) (from : State) (name : Name) (args : ℕ) : ErrorName → Type 0 where
  Undefined : primitive_of (text_named from.names name.0) args ≡ None → Fails h from name args errors.PrimitiveNotDefined
  Applied : (p : Primitive) (core : CoreWords) (memory : Words) (heap : Heap) (e : ErrorName) → primitive_of (text_named from.names name.0) args ≡ Some p → KnowsWords h from.core core → WasApplied h p args core memory heap (answers.Fails e) → Fails h from name args e

-- At its trap the node is that of a primitive with a handler, in a session whose state this is; it fails with an error, and these are the words of the
-- strings of the error and of the primitive.
pub record FailsHandled (h : Host) (from : State) (name : Name) (args error primitive : ℕ) : Type 0 where
  pub implied : Bool
  pub node_is : node_here h ≡ Some (nodes.Prim name args implied true)
  pub e : ErrorName
  pub fails : Fails h from name args e
  pub strings : KnowsStrings h from name args e error primitive

-- The host with the message to the handler in place of the primitive's; the handler stands behind the primitive's arguments.
abbrev pub handed : ℕ → ℕ → ℕ → Host → Host
handed args error primitive h = with_machine h (hands_over (h.machine.regs (9 + args)) error primitive h.machine)

-- what a message of this name to the value in %o0 meets, as a lookup over memory finds it that has room for so many objects
abbrev pub found_there : ℕ → ℕ → Host → Found
found_there room name g = found_from g.maps g.machine.memory room (g.machine.regs 8) name

-- how many bytes the trap of a primitive with a handler stands behind the node's poll; a sum has six words more in front of it
abbrev pub behind_primitive : Name → ℕ → ℕ
behind_primitive name args = behind_poll (args + 1) + (if is_sum name.0 args then 24 else 0)

-- The message was put there: its lookup may be made, a step is left of the goal, and the node's words can begin again.
pub record IsHandedOver (h : Host) (name : Name) (args error primitive target room : ℕ) : Type 0 where
  pub few : args + 1 ≤ 5
  pub may : MayLook h.maps h.machine.memory room (h.machine.regs (9 + args))
  pub left : count h < target
  pub back : behind_primitive name args ≤ h.machine.pc

abbrev pub FailuresAsk : Type 0
FailuresAsk = (h : Host) (from : State) (target : ℕ) (out : List ℕ) (room : ℕ) → IsAtTrap h 3 from target out → h.next ≤ room → (name : Name) (args error primitive : ℕ) → FailsHandled h from name args error primitive → IsHandedOver h name args error primitive target room

-- What holds of each thing that the message meets. Data answers it; no assignment slot is met.
abbrev pub HandlersAnswer : Type 0
HandlersAnswer = (h : Host) (from : State) (target : ℕ) (out : List ℕ) (room : ℕ) → IsAtTrap h 3 from target out → h.next ≤ room → (name : Name) (args error primitive : ℕ) → FailsHandled h from name args error primitive
    → (let g = handed args error primitive h in (word : ℕ) → data_word (whole g) (found_there room (failure_name from) g) ≡ Some word → StepsOn h (data_answers (target - count h - 1) (cost_left h) word g) from target out)

abbrev pub HandlersAreRead : Type 0
HandlersAreRead = (h : Host) (from : State) (target : ℕ) (out : List ℕ) (room : ℕ) → IsAtTrap h 3 from target out → h.next ≤ room → (name : Name) (args error primitive : ℕ) → FailsHandled h from name args error primitive
    → (let g = handed args error primitive h in (holder place : ℕ) → found_there room (failure_name from) g ≡ One holder (Field place) → HasWord (holder + 7 + 4 * place))

abbrev pub HandlersAssignNothing : Type 0
HandlersAssignNothing = (h : Host) (from : State) (target : ℕ) (out : List ℕ) (room : ℕ) → IsAtTrap h 3 from target out → h.next ≤ room → (name : Name) (args error primitive : ℕ) → FailsHandled h from name args error primitive
    → (let g = handed args error primitive h in (holder place : ℕ) → found_there room (failure_name from) g ≡ One holder (Assign place) → ⊥)

-- no slot, or two
abbrev pub HandlersMiss : Type 0
HandlersMiss = (h : Host) (from : State) (target : ℕ) (out : List ℕ) (room : ℕ) → IsAtTrap h 3 from target out → h.next ≤ room → (name : Name) (args error primitive : ℕ) → FailsHandled h from name args error primitive
    → (let g = handed args error primitive h in (goal : ℕ) (e : ErrorName) → goal ≤ 1000000000 → error_of (found_there room (failure_name from) g) ≡ Some e → HasRun (fails_unmarked goal (cost_left h) e (place_here h) g) from target out)

-- What holds of a method that it meets, whose unit stands at an address, or 0 where it has none yet.
pub record MeetsMethod (h g : Host) (from : State) (target : ℕ) (out : List ℕ) (name : Name) (args holder : ℕ) (c : BodyId) : Type 0 where
  pub there : IsThere h c
  pub mark : (at : ℕ) → slice_get h.entries (c.0 - 1) ≡ Some at → at ≢ 0 → MayTestMark g c.0
  pub call : (at : ℕ) → slice_get h.entries (c.0 - 1) ≡ Some at → at ≢ 0 → refusal g c.0 ≡ None → StepsOn h (calls (target - count h) (cost_left h) at holder g) from target out
  pub refused : (at : ℕ) → slice_get h.entries (c.0 - 1) ≡ Some at → at ≢ 0 → (goal : ℕ) (e : ErrorName) → goal ≤ 1000000000 → refusal g c.0 ≡ Some e → HasRun (fails_unmarked goal (cost_left h) e (place_here h) g) from target out
  pub fits : slice_get h.entries (c.0 - 1) ≡ Some 0 → next_unit h + 4 * length (unit_code h.references (body_in h.bodies c.0)) ≤ 0x12000000
  pub put : slice_get h.entries (c.0 - 1) ≡ Some 0 → (memory : Words) → IsPut g c.0 memory → BeginsAgain h (goes_back (behind_primitive name args) (target - count h) (cost_left h) (with_unit c.0 memory g)) from target out

abbrev pub HandlersMeetMethods : Type 0
HandlersMeetMethods = (h : Host) (from : State) (target : ℕ) (out : List ℕ) (room : ℕ) → IsAtTrap h 3 from target out → h.next ≤ room → (name : Name) (args error primitive : ℕ) → FailsHandled h from name args error primitive
    → (let g = handed args error primitive h in (holder : ℕ) (c : BodyId) → found_there room (failure_name from) g ≡ One holder (Method c) → MeetsMethod h g from target out name args holder c)
