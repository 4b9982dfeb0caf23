use Rattle.std.proofs.Common.{◌≡◌, refl, suc, ◌+◌, ◌*◌, ap, ◌∙◌, arith, drop}
use Rattle.std.specs.Prelude.{map, slice_get, Some}
use Rattle.sparc_store.specs.Words.{Words, with_word}
use Rattle.sparc_machine.specs.State.{MachineState}
use Rattle.sparc_machine.specs.Held.{state}
use Rattle.plain_words.specs.Moves.{with_words}
use Rattle.plain_words.specs.Units.{datum_word}
use Rattle.plain_words.proofs.Growing.{map_get}
use Rattle.plain_host.proofs.Filling.{words_next, same_but_memory}
use Rattle.plain_host.proofs.contexts.put_locals.Goals as goal

pub loop-j-preserved : goal.loop-j-preserved
loop-j-preserved c =
    let r = c.args.references.now in
    let x = c.local_at-local.result in
    let j = c.loop-j.j in
    let words = map (λ y. datum_word r y.initial) c.args.locals.now in
    let m0 = state c.args.machine.now in
    let m1 = state c.loop-j.machine in
    let m2 = state c.store.new.self in
    let at = c.args.at + 4 * j in
    let here : slice_get words j ≡ Some (datum_word r x.initial) = map_get (λ y. datum_word r y.initial) c.args.locals.now j x c.local_at-local.ensures in
    let put : m2.memory ≡ with_word m1.memory at (datum_word r x.initial) = ap (λ (m : MachineState). m.memory) c.store.ensures ∙ ap (with_word m1.memory at) c.datum.ensures in
    let next = c.args.at + 4 * (j + 1) in
    let one : j + 1 ≡ suc j = omega arith in
    record {
      machine = same_but_memory m0 m1 m2 _ c.loop-j.invariant.machine c.store.ensures;
      rest = ap (λ n. with_words m2.memory next (drop n words)) one
          ∙ ap (λ (z : Words). with_words z next (drop (suc j) words)) put
          ∙ words_next m1.memory c.args.at at next j (datum_word r x.initial) words here refl refl
          ∙ c.loop-j.invariant.rest;
    }
