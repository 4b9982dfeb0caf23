use Rattle.std.proofs.Common.{◌∙◌, ap, sym, subst, List}
use Rattle.object_maps.specs.Slots.{Slots}
use Rattle.object_maps.specs.declared.layout.Heap.{Heap}
use Rattle.source_model.specs.Primitives.{apply}
use Rattle.sparc_store.specs.Words.{Words, word_at}
use Rattle.sparc_machine.specs.Held.{state}
use Rattle.heap_cells.specs.Heaps.{IsHeap}
use Rattle.prim_table.specs.Answers.{IsAnswer}
use Rattle.plain_runs.specs.Course.{with_machine}
use Rattle.plain_prims.specs.Services.{heap_of}
use Rattle.plain_host.specs.Hosted.{Hosted, host}
use Rattle.plain_host.proofs.hosting.Hosting.apply_primitive.Goals as goal

pub returns-clause-same : goal.returns-clause-same
unfolding host state
returns-clause-same c = ap (λ (y : Hosted). with_machine (host y) (record (host y).machine { memory = c.apply-answer.new.mem })) c.self.view_is

pub returns-clause-answer : goal.returns-clause-answer
unfolding host state
returns-clause-answer c = λ h p made s v vs is core x ys.
    let maps = ap (λ (y : Hosted). y.maps) c.self.view_is in
    let mem = c.memory_mut-memory.ensures.value ∙ ap (λ (y : Hosted). y.machine.memory) c.self.view_is in
    let heap = c.heap-heap.ensures in
    let old : Words = c.args.self.now.machine.memory in
    let top : Heap = heap_of (host c.args.self.now) in
    let M : List Slots → Words → Heap → Type 0 = λ ms m t. IsHeap ms m t h p s.things made in
    let A : List Slots → Words → Heap → Type 0 = λ ms m t. IsAnswer ms m c.apply-answer.new.mem t c.apply-answer.new.heap h p s.things made c.args.receiver c.apply-answer.result (apply s c.args.prim v vs) in
    let there = subst (λ (t : Heap). M c.self.inside.maps c.memory_mut-memory.result.now t) (sym heap) (subst (λ (m : Words). M c.self.inside.maps m top) (sym mem) (subst (λ (ms : List Slots). M ms old top) (sym maps) is)) in
    let answer = c.apply-answer.ensures.answer h p made s v vs there core x ys in
    subst (λ (ms : List Slots). A ms old top) maps (subst (λ (m : Words). A c.self.inside.maps m top) mem (subst (λ (t : Heap). A c.self.inside.maps c.memory_mut-memory.result.now t) heap answer))

pub returns-clause-outside : goal.returns-clause-outside
unfolding host state
returns-clause-outside c = λ b o.
    c.apply-answer.ensures.outside b o ∙ ap (λ (m : Words). word_at m b) (c.memory_mut-memory.ensures.value ∙ ap (λ (y : Hosted). y.machine.memory) c.self.view_is)
