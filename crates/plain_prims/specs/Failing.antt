-- Primitives that end the current activity.
use Rattle.std.specs.Prelude.{◌≡◌, ℕ, ◌+◌, ◌<◌, Bool, false, None}
use Rattle.self_terms.specs.declared.errors.ErrorName.{ErrorName}
use Rattle.self_terms.specs.declared.errors.ErrorName.TheVariants as errors
use Rattle.self_terms.specs.declared.names.Name.{Name}
use Rattle.self_terms.specs.declared.nodes.Node.TheVariants as nodes
use Rattle.object_maps.specs.declared.layout.Heap.{Heap}
use Rattle.sparc_store.specs.Words.{Words}
use Rattle.sparc_machine.specs.State.{MachineState}
use Rattle.prim_table.specs.declared.answers.PrimAnswer.TheVariants as answers
use Rattle.source_model.specs.Names.{text_named}
use Rattle.source_model.specs.Primitives.{Effect, Makes, Fails as Failure}
use Rattle.source_model.specs.declared.objects.Thing.{Thing}
use Rattle.source_model.specs.Sends.{Message}
use Rattle.source_model.specs.State.{State}
use Rattle.source_model.specs.Step.{place_of}
use Rattle.raw_steps.specs.Messages.{asked}
use Rattle.raw_steps.specs.Sends.{here_of}
use Rattle.raw_steps.specs.Stands.{Sense}
use Rattle.plain_runs.specs.Host.{Host}
use Rattle.plain_runs.specs.Sound.{RunsAt}
use Rattle.plain_runs.specs.Course.{with_machine, CanGo}
use Rattle.plain_steps.specs.Steps.{StandsFor}
use Rattle.plain_answers.specs.Failing.{PlainUnits, Fails}
use Rattle.plain_prims.specs.Asking.{IsPerformed}
use Rattle.plain_prims.specs.Performing.{IsApplied}
use Rattle.plain_prims.specs.Rows.{primitive_of, effect_of}
use Rattle.plain_prims.specs.Services.{heap_of}

-- a primitive that fails and has no handler
abbrev pub FailuresEnd : Type 0
FailuresEnd = (z : Sense) (h : Host) (s : State) (b n : ℕ) (name : Name) (args : ℕ) (implied handler : Bool) (r : RunsAt h b n (nodes.Prim name args implied handler)) (q : IsPerformed z h s b n name args implied handler r) → StandsFor z h s → CanGo h → PlainUnits h
    → (e : ErrorName) → effect_of s name args (asked args implied handler (here_of s q.sender q.older)) ≡ Failure e → handler ≡ false → Fails h q.asks.to s e (place_of s q.sender)

-- one that is to make a thing for more words than are left, with or without a handler
abbrev pub FullStoresEnd : Type 0
FullStoresEnd = (z : Sense) (h : Host) (s : State) (b n : ℕ) (name : Name) (args : ℕ) (implied handler : Bool) (r : RunsAt h b n (nodes.Prim name args implied handler)) (q : IsPerformed z h s b n name args implied handler r) → StandsFor z h s → CanGo h → PlainUnits h
    → (words : ℕ) (t : Thing) → effect_of s name args (asked args implied handler (here_of s q.sender q.older)) ≡ Makes words t → 4194304 < s.cost + words → Fails h q.asks.to s errors.StoreFull (place_of s q.sender)

-- A name that has no primitive of so many arguments fails.
abbrev pub UnknownFails : Type 0
UnknownFails = (s : State) (name : Name) (args : ℕ) (m : Message) → primitive_of (text_named s.names name.0) args ≡ None → effect_of s name args m ≡ Failure errors.PrimitiveNotDefined

-- A primitive that was applied and has failed left memory and heap, and failed with the error of its effect.
abbrev pub RefusalsTell : Type 0
RefusalsTell = (z : Sense) (h : Host) (s : State) (m : MachineState) (memory : Words) (heap : Heap) (x : ErrorName) (e : Effect) → IsApplied z h s m memory heap (answers.Fails x) e → (e ≡ Failure x) × (memory ≡ m.memory) × (heap ≡ heap_of (with_machine h m))
