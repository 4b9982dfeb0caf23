use Rattle.std.proofs.Common.{◌≡◌, ◌+◌, ap, ◌∙◌, arith}
use Rattle.std.specs.Prelude.{length}
use Rattle.std.proofs.lemmas.List.{length-map}
use Rattle.self_terms.specs.declared.bodies.Local.{Local}
use Rattle.sparc_store.specs.Words.{with_word}
use Rattle.sparc_machine.specs.State.{MachineState}
use Rattle.sparc_machine.specs.Held.{state}
use Rattle.plain_words.specs.Units.{datum_word}
use Rattle.plain_runs.specs.Services.{in_first_frame}
use Rattle.plain_spawns.specs.Spawns.{with_context}
use Rattle.plain_host.specs.Started.{context_of}
use Rattle.plain_host.proofs.contexts.start.Goals as goal

pub returns : goal.returns
returns c =
    let a = c.args in
    let r = a.references.now in
    let b = a.body.now in
    let cell = context_of r b a.place a.receiver in
    let mapped = length-map b.locals (λ (y : Local). datum_word r y.initial) in
    let count : length c.as_slice.result.now ≡ length b.locals = ap length c.as_slice.ensures in
    let long : 4 + length c.as_slice.result.now ≡ length cell = omega (arith, mapped, count) in
    c.go_to.ensures
    ∙ ap (λ (m : MachineState). record m { pc = a.first; npc = a.first + 4 })
    (c.count_context.ensures
    ∙ ap (λ n. with_context n (state c.lay_frame.new.machine)) long
    ∙ ap (with_context (length cell))
    (c.lay_frame.ensures
    ∙ ap (in_first_frame a.place a.entry a.receiver)
    (c.store.ensures ∙ ap (λ (m : MachineState). record m { memory = with_word m.memory (a.place + 104) a.holder }) c.put_context.ensures)))
