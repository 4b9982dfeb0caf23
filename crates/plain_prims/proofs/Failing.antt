-- Primitives that end the current activity.
use Rattle.std.proofs.Common.{◌≡◌, ℕ, ◌+◌, ◌<◌, ◌∙◌, ap, sym, arith, List}
use Rattle.std.specs.Prelude.{Bool, false, nat_le, ◌∷◌, length, Option, Ok, Err}
use Rattle.std.proofs.lemmas.Bool.{cond-false}
use Rattle.std.proofs.lemmas.Grind.{common_steps}
use Rattle.self_terms.specs.declared.errors.ErrorName.{ErrorName}
use Rattle.self_terms.specs.declared.errors.ErrorName.TheVariants as errors
use Rattle.self_terms.specs.declared.nodes.Node.TheVariants as nodes
use Rattle.self_terms.specs.declared.values.Value.{Value}
use Rattle.self_terms.specs.declared.values.Value.TheVariants as values
use Rattle.object_maps.specs.declared.layout.Heap.{Heap}
use Rattle.sparc_store.specs.Words.{Words}
use Rattle.prim_table.specs.Answers.{IsAnswer}
use Rattle.prim_table.specs.declared.answers.PrimAnswer.TheVariants as answers
use Rattle.source_model.specs.Names.{text_named}
use Rattle.source_model.specs.Primitives.{Effect, Gives, Makes, Puts, Prints, Fails as Failure, row_of}
use Rattle.source_model.specs.declared.objects.Thing.{Thing}
use Rattle.source_model.specs.Sends.{Message, then_do, goes_on, paid}
use Rattle.source_model.specs.State.{Activation, State}
use Rattle.source_model.specs.Step.{handler_of, performs, with_thing}
use Rattle.raw_steps.specs.Messages.{asked}
use Rattle.raw_steps.specs.Sends.{here_of}
use Rattle.raw_steps.specs.Stands.{Sense}
use Rattle.plain_runs.specs.Host.{Host}
use Rattle.plain_runs.specs.Course.{with_machine}
use Rattle.plain_answers.proofs.Failing.{errors_fail}
use Rattle.plain_prims.specs.Failing.{FailuresEnd, FullStoresEnd, UnknownFails, RefusalsTell}
use Rattle.plain_prims.specs.Rows.{applied}
use Rattle.plain_prims.specs.Services.{heap_of}
use Rattle.plain_prims.proofs.Performing.{done_by_effect}
use Rattle.plain_prims.proofs.Rows.{effects_tell}

-- with no handler the failure is the error itself
no_handler : (s : State) (a : Activation) (older : List Activation) (m : Message) (row : Option ℕ) (handler : Bool) (e : ErrorName) → handler ≡ false → performs (here_of s a older) m row (handler_of handler (here_of s a older)) (Failure e) ≡ Err e
no_handler s a older m row handler e none = ap (λ b. performs (here_of s a older) m row (handler_of b (here_of s a older)) (Failure e)) none

pub failures_end : FailuresEnd
failures_end z h s b n name args implied handler r q f can plain e is none =
    let message = asked args implied handler (here_of s q.sender q.older) in
    errors_fail z h s b n (nodes.Prim name args implied handler) f r can plain q.sender q.older q.is_at.here e
    (done_by_effect s q.sender q.older name args implied handler (Failure e) is ∙ no_handler s q.sender q.older message (row_of (text_named s.names name.0) args) handler e none)
    q.asks.to q.at q.asks.moved

-- what is left of the plain cost is too little
too_much : (words : ℕ) (s : State) → 4194304 < s.cost + words → nat_le (s.cost + words) 4194304 ≡ false
too_much words s much = grind (arith, common_steps)

unpaid : (words : ℕ) (s : State) → 4194304 < s.cost + words → paid words s ≡ Err errors.StoreFull
unpaid words s much = cond-false (nat_le (s.cost + words) 4194304) (Ok (record s { cost = s.cost + words })) (Err errors.StoreFull) (too_much words s much)

full : (s : State) (a : Activation) (older : List Activation) (m : Message) (row : Option ℕ) (handler : Option Value) (words : ℕ) (t : Thing) → 4194304 < s.cost + words → performs (here_of s a older) m row handler (Makes words t) ≡ Err errors.StoreFull
full s a older m row handler words t much = ap (λ p. then_do p (λ x. goes_on (with_thing t x) (here_of s a older) (values.Object (length x.things) ∷ m.rest))) (unpaid words s much)

pub full_stores_end : FullStoresEnd
full_stores_end z h s b n name args implied handler r q f can plain words t is much =
    let message = asked args implied handler (here_of s q.sender q.older) in
    errors_fail z h s b n (nodes.Prim name args implied handler) f r can plain q.sender q.older q.is_at.here errors.StoreFull
    (done_by_effect s q.sender q.older name args implied handler (Makes words t) is
    ∙ full s q.sender q.older message (row_of (text_named s.names name.0) args) (handler_of handler (here_of s q.sender q.older)) words t much)
    q.asks.to q.at q.asks.moved

pub unknown_fails : UnknownFails
unknown_fails s name args m none = effects_tell s (text_named s.names name.0) args m.receiver m.arguments ∙ ap (λ y. applied s y m.receiver m.arguments) none

-- what failed has the error of its effect
refused : (z : Sense) (h : Host) (s : State) (old new : Words) (heap after : Heap) (receiver : ℕ) (x : ErrorName) (e : Effect) → IsAnswer h.maps old new heap after z.cells z.places s.things z.made receiver (answers.Fails x) e → (e ≡ Failure x) × (new ≡ old) × (after ≡ heap)
refused z h s old new heap after receiver x (Failure y) a = (ap Failure (sym a.0), a.1, a.2)
refused z h s old new heap after receiver x (Gives v) a = absurd a
refused z h s old new heap after receiver x (Makes words t) a = absurd a
refused z h s old new heap after receiver x (Puts o t) a = absurd a
refused z h s old new heap after receiver x (Prints line) a = absurd a

pub refusals_tell : RefusalsTell
refusals_tell z h s m memory heap x e a = refused z h s m.memory memory (heap_of (with_machine h m)) heap (m.regs 8) x e a.answers
