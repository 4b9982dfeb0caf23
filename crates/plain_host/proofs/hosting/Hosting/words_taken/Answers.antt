use Rattle.std.proofs.Common.{◌∙◌, ap, sym, subst, List}
use Rattle.object_maps.specs.Slots.{Slots}
use Rattle.sparc_store.specs.Words.{Words}
use Rattle.sparc_machine.specs.Held.{state}
use Rattle.heap_cells.specs.Heaps.{IsHeap}
use Rattle.plain_host.specs.Hosted.{Hosted, host}
use Rattle.plain_host.proofs.hosting.Hosting.words_taken.Goals as goal

pub returns : goal.returns
unfolding host state
returns c = λ heap h p made s v vs is x.
    let maps = ap (λ (y : Hosted). y.maps) c.self.view_is in
    let mem = c.memory.ensures ∙ ap (λ (y : Hosted). y.machine.memory) c.self.view_is in
    let M : List Slots → Words → Type 0 = λ ms m. IsHeap ms m heap h p s.things made in
    c.words_taken.ensures heap h p made s v vs (subst (λ (m : Words). M c.self.inside.maps m) (sym mem) (subst (λ (ms : List Slots). M ms c.args.self.now.machine.memory) (sym maps) is)) x
