-- The machine's memory over that of the heap.
use Rattle.std.proofs.Common.{◌≡◌, ℕ, suc, ◌+◌, ◌-◌, ◌*◌, ◌/◌, ◌%◌, ◌<◌, ◌∙◌, ap, sym, arith, length}
use Rattle.std.specs.Prelude.{Some, slice_get, nat_eq, if◌then◌else◌}
use Rattle.object_maps.specs.Layout.{map_at}
use Rattle.object_maps.specs.Slots.{slots_in}
use Rattle.sparc_store.specs.Words.{Words}
use Rattle.heap_cells.specs.Laying.{Cells, Laid}
use Rattle.heap_cells.specs.Shapes.{Cell, words_of}
use Rattle.plain_runs.specs.Host.{heap_words}
use Rattle.plain_answers.specs.Whole.{whole, WholeStands, WholeAssigns}
use Rattle.plain_answers.proofs.Storing.{InHeap, same_word, object_first}

word_inside : (top a k : ℕ) (h : Cells) (c : Cell) (mem : Words) → Laid mem top h → h a ≡ Some c → k < length (words_of c) → InHeap (a + 4 * k)
word_inside top a k h c mem laid at lt =
    let i = laid.inside a c at in
    let aligned = i.aligned in
    let above = i.above in
    let below = i.below in
    let within = laid.end.within in
    record { aligned = omega arith; above = omega arith; below = omega arith }

laid_whole : (m : Words) (top : ℕ) (h : Cells) → Laid (heap_words m) top h → Laid m top h
laid_whole m top h laid = record {
  held = λ a c at k lt. sym (same_word m (a + 4 * k) (word_inside top a k h c (heap_words m) laid at lt)) ∙ laid.held a c at k lt;
  inside = laid.inside;
  apart = laid.apart;
  end = laid.end;
  row = laid.row;
}

pub whole_stands : WholeStands
whole_stands z h s f =
    let S = f.stands in
    let heap = S.heap in (
      record {
        heap = record { laid = laid_whole h.machine.memory (h.machine.regs 6) z.cells heap.laid; means = heap.means; numbered = heap.numbered; kinds = heap.kinds; mapped = heap.mapped; told = heap.told; rooted = heap.rooted };
        unused = S.unused;
        activity = S.activity;
        live = S.live;
        current = S.current;
        steps = S.steps;
        cost = S.cost;
        within = S.within;
      },
      record { kin_of = f.core.kin_of; integers = f.core.integers; blocks = f.core.blocks },
    )

same_map : (m : Words) (w : ℕ) → InHeap (w - 1) → map_at (heap_words m) w ≡ map_at m w
same_map m w there = ap (λ (x : ℕ). if nat_eq (w % 4) 0 then 0 else x / 4) (same_word m (w - 1) there)

pub whole_assigns : WholeAssigns
whole_assigns z h s f met name holder place a = record {
  object = a.object;
  met_is = a.met_is;
  slots = a.slots;
  was = a.was;
  there = a.there;
  number = a.number;
  own = a.own;
  old = a.old;
  behind = a.behind;
  found = ap (λ (q : ℕ). slice_get (slots_in h.maps q) (suc a.number)) (same_map h.machine.memory holder (object_first z (whole h) s (whole_stands z h s f).0 a.object holder a.slots a.there a.was)) ∙ a.found;
}
