-- A heap stands in the words of the heap alone.
use Rattle.std.proofs.Common.{◌≡◌, sym, ap, ◌∙◌, ℕ, ◌+◌, ◌-◌, ◌*◌, ◌/◌, ◌%◌, ◌<◌, ◌≤◌, List, [], slice_index, arith}
use Rattle.std.specs.Prelude.{Some}
use Rattle.std.proofs.lemmas.Grind.{common_steps}
use Rattle.object_maps.specs.declared.layout.Heap.{Heap}
use Rattle.object_maps.specs.Slots.{Slots}
use Rattle.source_model.specs.declared.objects.Thing.{Thing}
use Rattle.sparc_store.specs.Regions.{Heap as HeapPlace, place_of}
use Rattle.sparc_store.specs.Words.{Words, word_in, word_at}
use Rattle.heap_cells.specs.Shapes.{Cell, words_of}
use Rattle.heap_cells.specs.Laying.{Cells, Holds}
use Rattle.heap_cells.specs.Source.{Made}
use Rattle.heap_cells.specs.Standing.{Places}
use Rattle.heap_cells.specs.Heaps.{IsHeap}
use Rattle.heap_cells.proofs.Looking.{lookup_renamed}
use Rattle.heap_cells.proofs.Reading.{heap_sound}
use Rattle.world_heap.specs.Heaps.{places, heap_of, HasHeap}
use Rattle.world_heap.specs.Images.{Image}

in_heap : (at : ℕ) → 0x20000000 ≤ at → at < 0x20000000 + 46137344 → at % 4 ≡ 0 → place_of at ≡ HeapPlace ((at - 0x20000000) / 4)
in_heap at low high tagged = grind (arith, common_steps)

pub word_same : (old new : Words) (at : ℕ) → new.heap ≡ old.heap → 0x20000000 ≤ at → at < 0x20000000 + 46137344 → at % 4 ≡ 0 → word_at new at ≡ word_at old at
unfolding word_at
word_same old new at same low high tagged =
    let place = in_heap at low high tagged in
    ap (word_in new) place ∙ ap (λ (q : List ℕ). slice_index q ((at - 0x20000000) / 4)) same ∙ sym (ap (word_in old) place)

module _ (maps : List Slots) (mem new : Words) (heap : Heap) (h : Cells) (p : Places) (things : List Thing) (made : List Made) (is : IsHeap maps mem heap h p things made) (same : new.heap ≡ mem.heap) where
  held_alone : (a : ℕ) (c : Cell) → h a ≡ Some c → Holds new a (words_of c)
  held_alone a c there k lt =
      let inside = is.laid.inside a c there in
      let aligned = inside.aligned in
      let above = inside.above in
      let below = inside.below in
      let within = is.laid.end.within in
      word_same mem new (a + 4 * k) same (omega arith) (omega arith) (omega arith) ∙ is.laid.held a c there k lt

  pub heap_alone : IsHeap maps new heap h p things made
  heap_alone = record {
    laid = record { held = held_alone; inside = is.laid.inside; apart = is.laid.apart; end = is.laid.end; row = is.laid.row };
    means = is.means;
    numbered = is.numbered;
    kinds = is.kinds;
    mapped = is.mapped;
    told = is.told;
    rooted = is.rooted;
  }

pub world_alone : (i : Image) (mem new : Words) → HasHeap i mem → new.heap ≡ mem.heap → HasHeap i new
world_alone i mem new has same =
    let is = heap_alone i.maps mem new (heap_of i) has.cells (places i.world) i.world.things [] has.is same in
    record {
      cells = has.cells;
      is = is;
      kin_of = has.kin_of;
      integers = has.integers;
      sound = heap_sound i.maps new (heap_of i) has.cells (places i.world) i.world.things [] is;
      lookup = λ name levels n w at. lookup_renamed i.maps new (heap_of i) has.cells (places i.world) i.world.things [] i.world.core.strings i.world.core.vectors is has.kin_of name levels n w at;
    }
