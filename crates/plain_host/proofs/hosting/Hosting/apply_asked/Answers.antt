use Rattle.std.proofs.Common.{◌≡◌, ◌∙◌, ℕ, ap, sym, subst, List, [], ◌∷◌, take}
use Rattle.source_model.specs.Primitives.{apply}
use Rattle.sparc_machine.specs.Held.{state}
use Rattle.heap_cells.specs.Standing.{IsValue, AreValues}
use Rattle.prim_table.specs.Answers.{CanApply, IsAnswer}
use Rattle.plain_prims.specs.Services.{heap_of}
use Rattle.plain_host.specs.contracts.hosting.Hosting.{the_view}
use Rattle.plain_host.specs.Hosted.{Hosted, host}
use Rattle.plain_host.proofs.Outs.{outs_are}
use Rattle.plain_host.proofs.hosting.Hosting.apply_asked.Goals as goal

pub apply_primitive-requires-clause-stands : goal.apply_primitive-requires-clause-stands
unfolding host state
apply_primitive-requires-clause-stands c =
    let h = host c.args.self.now in
    let regs = h.machine.regs in
    let at : (r : ℕ) → (host (the_view c.self.inside)).machine.regs r ≡ regs r = λ r. ap (λ (y : Hosted). (host y).machine.regs r) c.self.view_is in
    let outs = outs_are regs c.args.count c.get.result c.get-2.result c.get-3.result c.get-4.result c.get-5.result (c.get.ensures ∙ at 9) (c.get-2.ensures ∙ at 10) (c.get-3.ensures ∙ at 11) (c.get-4.ensures ∙ at 12) (c.get-5.ensures ∙ at 13) c.requires.count in
    let receiver = c.get-receiver.ensures ∙ at 8 in
    let C : ℕ → List ℕ → Type 0 = λ w ws. CanApply h.maps c.args.core h.machine.memory (heap_of h) c.args.prim w ws in
    subst (λ (w : ℕ). C w (take c.args.count (c.get.result ∷ c.get-2.result ∷ c.get-3.result ∷ c.get-4.result ∷ c.get-5.result ∷ []))) (sym receiver) (subst (λ (ws : List ℕ). C (regs 8) ws) (sym outs) c.requires.stands)

pub returns-clause-answer : goal.returns-clause-answer
unfolding host state
returns-clause-answer c = λ hc p made s v vs is core x ys.
    let h = host c.args.self.now in
    let regs = h.machine.regs in
    let at : (r : ℕ) → (host (the_view c.self.inside)).machine.regs r ≡ regs r = λ r. ap (λ (y : Hosted). (host y).machine.regs r) c.self.view_is in
    let outs = outs_are regs c.args.count c.get.result c.get-2.result c.get-3.result c.get-4.result c.get-5.result (c.get.ensures ∙ at 9) (c.get-2.ensures ∙ at 10) (c.get-3.ensures ∙ at 11) (c.get-4.ensures ∙ at 12) (c.get-5.ensures ∙ at 13) c.requires.count in
    let receiver = c.get-receiver.ensures ∙ at 8 in
    let A : ℕ → Type 0 = λ w. IsAnswer h.maps h.machine.memory (host c.apply_primitive.new.self).machine.memory (heap_of h) c.apply_primitive.result.heap hc p s.things made w c.apply_primitive.result.answer (apply s c.args.prim v vs) in
    subst A receiver (c.apply_primitive.ensures.answer hc p made s v vs is core (subst (λ (w : ℕ). IsValue hc p v w) (sym receiver) x) (subst (λ (ws : List ℕ). AreValues hc p vs ws) (sym outs) ys))
