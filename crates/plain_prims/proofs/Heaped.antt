-- A heap that stands in all memory stands in the words of the heap.
use Rattle.std.proofs.Common.{◌≡◌, ℕ, ◌+◌, ◌*◌, ◌<◌, ◌∙◌, arith, List, length}
use Rattle.std.specs.Prelude.{Some}
use Rattle.object_maps.specs.declared.layout.Heap.{Heap}
use Rattle.object_maps.specs.Slots.{Slots}
use Rattle.self_terms.specs.declared.values.Value.{Value}
use Rattle.source_model.specs.declared.objects.Thing.{Thing}
use Rattle.source_model.specs.Primitives.{Effect}
use Rattle.sparc_store.specs.Words.{Words}
use Rattle.heap_cells.specs.Laying.{Cells, Laid}
use Rattle.heap_cells.specs.Heaps.{IsHeap}
use Rattle.heap_cells.specs.Shapes.{Cell, words_of}
use Rattle.heap_cells.specs.Source.{Made}
use Rattle.heap_cells.specs.Standing.{Places}
use Rattle.prim_table.specs.Answers.{GoesOn}
use Rattle.plain_runs.specs.Host.{heap_words}
use Rattle.plain_answers.proofs.Storing.{InHeap, same_word}

word_inside : (top a k : ℕ) (h : Cells) (c : Cell) (mem : Words) → Laid mem top h → h a ≡ Some c → k < length (words_of c) → InHeap (a + 4 * k)
word_inside top a k h c mem laid at lt =
    let i = laid.inside a c at in
    let aligned = i.aligned in
    let above = i.above in
    let below = i.below in
    let within = laid.end.within in
    record { aligned = omega arith; above = omega arith; below = omega arith }

laid_there : (m : Words) (top : ℕ) (h : Cells) → Laid m top h → Laid (heap_words m) top h
laid_there m top h laid = record {
  held = λ a c at k lt. same_word m (a + 4 * k) (word_inside top a k h c m laid at lt) ∙ laid.held a c at k lt;
  inside = laid.inside;
  apart = laid.apart;
  end = laid.end;
  row = laid.row;
}

heap_there : (maps : List Slots) (m : Words) (heap : Heap) (h : Cells) (p : Places) (things : List Thing) (made : List Made) → IsHeap maps m heap h p things made → IsHeap maps (heap_words m) heap h p things made
heap_there maps m heap h p things made is = record {
  laid = laid_there m heap.top h is.laid;
  means = is.means;
  numbered = is.numbered;
  kinds = is.kinds;
  mapped = is.mapped;
  told = is.told;
  rooted = is.rooted;
}

-- what an answer leaves stands there too
pub goes_on_there : (maps : List Slots) (m : Words) (old old2 heap : Heap) (h : Cells) (p : Places) (things : List Thing) (made : List Made) (v : Value) (w : ℕ) (e : Effect) → old.top ≡ old2.top
    → GoesOn maps m old heap h p things made v w e → GoesOn maps (heap_words m) old2 heap h p things made v w e
goes_on_there maps m old old2 heap h p things made v w e same g = record {
  places = g.places;
  after = record { cells = g.after.cells; is = heap_there maps m heap g.after.cells g.places _ made g.after.is; grows = g.after.grows };
  stands = g.stands;
  top = omega (arith, g.top, same);
}
