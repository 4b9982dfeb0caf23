-- Lookups over memory find what lookups over the words of the heap find.
use Rattle.std.proofs.Common.{◌≡◌, refl, ap, ◌∙◌, ℕ, ◌+◌, ◌-◌, ◌*◌, ◌%◌, ◌<◌, arith, inl, inr}
use Rattle.std.specs.Prelude.{Some, slice_get}
use Rattle.std.proofs.lemmas.Option.{slice_get_within}
use Rattle.self_terms.specs.declared.values.Value.{Value}
use Rattle.self_terms.specs.declared.values.Value.TheVariants as values
use Rattle.source_model.specs.State.{State}
use Rattle.heap_cells.specs.Shapes.{Cell, Block, size}
use Rattle.heap_cells.specs.Standing.{IsValue, RefersTo}
use Rattle.heap_cells.specs.Heaps.{IsHeap}
use Rattle.heap_cells.proofs.Numbered.{got_if}
use Rattle.heap_cells.proofs.Reading.{heap_sound, value_sound, integer_aligned}
use Rattle.heap_cells.proofs.Rows.{two_words}
use Rattle.raw_steps.specs.Stands.{Sense}
use Rattle.plain_runs.specs.Host.{Host, raw_of, heap_words}
use Rattle.plain_steps.specs.Steps.{StandsFor}
use Rattle.plain_lookups.specs.Looking.{FindSame, ObjectsAreSound, ValuesAreSound, MemoriesAgree, ReadsSame, ObjectsDecide}
use Rattle.plain_lookups.proofs.Same.{find_same}
use Rattle.plain_lookups.proofs.Words.{InHeap, IsReached, same_word, map_same, number_same}

module _ (z : Sense) (h : Host) (s : State) (f : StandsFor z h s) where
  -- a word of a cell lies in the heap
  cell_inside : (a k at : ℕ) (c : Cell) → z.cells a ≡ Some c → k < size c → at ≡ a + 4 * k → InHeap at
  cell_inside a k at c is lt e =
      let i = f.stands.heap.laid.inside a c is in
      let end = f.stands.heap.laid.end in
      let aligned = i.aligned in
      let above = i.above in
      let below = i.below in
      let within = end.within in
      record { aligned = omega arith; above = omega arith; below = omega arith }

  -- the heap stands in all memory
  pub whole : IsHeap h.maps h.machine.memory (raw_of h).heap z.cells z.places s.things z.made
  whole = record {
    laid = record {
      held = λ a c is k lt. same_word h.machine.memory (a + 4 * k) (cell_inside a k (a + 4 * k) c is lt refl) ∙ f.stands.heap.laid.held a c is k lt;
      inside = f.stands.heap.laid.inside;
      apart = f.stands.heap.laid.apart;
      end = f.stands.heap.laid.end;
      row = f.stands.heap.laid.row;
    };
    means = f.stands.heap.means;
    numbered = f.stands.heap.numbered;
    kinds = f.stands.heap.kinds;
    mapped = f.stands.heap.mapped;
    told = f.stands.heap.told;
    rooted = f.stands.heap.rooted;
  }

  refers : (w : ℕ) (c : Cell) → RefersTo z.cells w c → IsReached w
  refers w c r =
      let tagged = r.0 in
      let two = two_words c in
      inr (tagged, (cell_inside (w - 1) 0 (w - 1) c r.1 (omega arith) (omega arith), cell_inside (w - 1) 1 (w + 3) c r.1 (omega arith) (omega arith)))

  object_reached : (n w : ℕ) → slice_get z.places.objects n ≡ Some w → IsReached w
  object_reached n w at =
      let t = got_if s.things n (let lt = slice_get_within z.places.objects n w at in let len = f.stands.heap.means.objects_all in omega arith) in
      let o = f.stands.heap.means.object n w t.0 at t.1 in
      refers w o.cell o.there

  pub reached : (v : Value) (w : ℕ) → IsValue z.cells z.places v w → IsReached w
  reached (values.Int i) w value = inl (ap (λ q. q % 4) value.1 ∙ integer_aligned i value.0)
  reached (values.Object n) w value = object_reached n w value
  reached (values.Block body maker) w value = refers w (Block value.map body.0 value.context value.receiver) (value.tagged, value.cell)

  pub same : (v : Value) (w : ℕ) → IsValue z.cells z.places v w → FindSame h.maps h.machine.memory (heap_words h.machine.memory) w
  same v w value =
      find_same h.maps h.machine.memory (heap_words h.machine.memory) IsReached (map_same h.machine.memory) (number_same h.machine.memory)
      (λ map at name word there. let r = f.stands.heap.rooted map at name word there in object_reached r.0 word r.1)
      w (reached v w value)

pub objects_sound : ObjectsAreSound
objects_sound z h s f = record {
  memory = heap_sound h.maps h.machine.memory (raw_of h).heap z.cells z.places s.things z.made (whole z h s f);
  heap = heap_sound h.maps (heap_words h.machine.memory) (raw_of h).heap z.cells z.places s.things z.made f.stands.heap;
  room = f.stands.heap.means.objects_all;
}

pub values_sound : ValuesAreSound
values_sound z h s f v w value = (
  value_sound h.maps h.machine.memory (raw_of h).heap z.cells z.places s.things z.made (whole z h s f) v w value,
  value_sound h.maps (heap_words h.machine.memory) (raw_of h).heap z.cells z.places s.things z.made f.stands.heap v w value,
)

pub memories_agree : MemoriesAgree
memories_agree z h s f v w value = same z h s f v w value

pub objects_decide : ObjectsDecide
objects_decide maps mem other objects w listed same start =
    find_same maps mem other (ReadsSame mem other) (λ x e. e.0) (λ x e. e.1) (λ map at name word there. let g = listed map at name word there in same g.0 word g.1) w start
