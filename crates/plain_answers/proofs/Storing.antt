-- Words of the heap.
use Rattle.std.proofs.Common.{◌≡◌, ℕ, zero, suc, ◌+◌, ◌-◌, ◌*◌, ◌/◌, ◌%◌, ◌<◌, ◌≤◌, refl, ◌∙◌, ap, sym, subst, arith, inl, inr, List, [], ◌∷◌, length}
use Rattle.std.specs.Prelude.{Some, slice_get}
use Rattle.std.proofs.lemmas.Grind.{common_steps}
use Rattle.std.proofs.lemmas.Option.{same_Some, none-some}
use Rattle.object_maps.specs.declared.maps.SlotKind.{SlotKind}
use Rattle.object_maps.specs.declared.maps.SlotKind.TheVariants as kind
use Rattle.object_maps.specs.Slots.{Slots, slots_in}
use Rattle.self_terms.specs.declared.values.Value.{Value}
use Rattle.sparc_store.specs.Regions.{Place, Heap, place_of}
use Rattle.sparc_store.specs.Words.{Words, word_at, with_word, put_in, HasWord, IsWithin, Stored}
use Rattle.sparc_store.proofs.Placed.{others_stay, put_there}
use Rattle.source_model.specs.Objects.{Object}
use Rattle.source_model.specs.declared.objects.Content.{Content}
use Rattle.source_model.specs.declared.objects.Content.TheVariants.{Constant, Assignable, Assignment, Parent, Method}
use Rattle.source_model.specs.declared.objects.Slot.{Slot}
use Rattle.source_model.specs.declared.objects.Thing.TheVariants.{Plain}
use Rattle.source_model.specs.Messages.{Met}
use Rattle.source_model.specs.State.{State}
use Rattle.heap_cells.specs.Laying.{Cells, Laid}
use Rattle.heap_cells.specs.Reads.{field_slot}
use Rattle.heap_cells.specs.Shapes.{Cell, Plain as PlainCell, size}
use Rattle.heap_cells.specs.Source.{fields, held}
use Rattle.heap_cells.specs.Standing.{Places, IsKind, AreKinds, RefersTo, behind}
use Rattle.heap_cells.proofs.Fielding.{values_length}
use Rattle.heap_cells.proofs.Stepping.{map_of_cell, plain_cell}
use Rattle.frame_walk.specs.Raw.{Raw}
use Rattle.raw_steps.specs.Stands.{Sense, Stands}
use Rattle.plain_runs.specs.Host.{heap_words}
use Rattle.plain_answers.specs.Found.{IsAssignment, AssignmentsHaveWords}

-- the address of a word of the heap
pub record InHeap (at : ℕ) : Type 0 where
  pub aligned : at % 4 ≡ 0
  pub above : 0x20000000 ≤ at
  pub below : at < 0x20000000 + 46137344

in_heap : (at : ℕ) → InHeap at → place_of at ≡ Heap ((at - 0x20000000) / 4)
in_heap at h = let a = h.aligned in let b = h.above in let c = h.below in grind (arith, common_steps)

put_words : (m : Words) (p : Place) (w k : ℕ) → p ≡ Heap k → heap_words (put_in m p w) ≡ put_in (heap_words m) p w
put_words m p w k e = ap (λ q. heap_words (put_in m q w)) e ∙ sym (ap (λ q. put_in (heap_words m) q w) e)

stored_words : (m : Words) (at w : ℕ) → InHeap at → heap_words (with_word m at w) ≡ with_word (heap_words m) at w
unfolding with_word
stored_words m at w h = put_words m (place_of at) w ((at - 0x20000000) / 4) (in_heap at h)

pub same_word : (m : Words) (at : ℕ) → InHeap at → word_at (heap_words m) at ≡ word_at m at
unfolding word_at
same_word m at h = rw (in_heap at h) refl

has_word : (at : ℕ) → InHeap at → HasWord at
has_word at h = (h.aligned, inr (inl (h.above, h.below)))

-- a word stored there is stored among the words of the heap
pub stored_in_heap : (m : Words) (at w : ℕ) → IsWithin m → InHeap at → Stored (heap_words m) (heap_words (with_word m at w)) at w
stored_in_heap m at w whole h = record {
  put = same_word (with_word m at w) at h ∙ put_there m at w whole (has_word at h);
  others = λ b ne. ap (λ (y : Words). word_at y b) (stored_words m at w h) ∙ others_stay (heap_words m) at w b ne;
}

-- Where the word of a slot's data stands.

module _ (h : Cells) (p : Places) where
  low_here : (n at : ℕ) (c : Content) (more : List Value) → IsKind h p n (kind.Assign at) c → at ≤ n + length (held c more) - 1
  low_here n at Assignment more is = omega arith
  low_here n at (Constant v) more is = absurd is
  low_here n at (Assignable v) more is = absurd is
  low_here n at (Parent o) more is = absurd is
  low_here n at (Method b) more is = absurd is

  low_behind : (n at : ℕ) (c : Content) (more : List Value) → at ≤ behind n c + length more - 1 → at ≤ n + length (held c more) - 1
  low_behind n at (Assignable v) more le = omega arith
  low_behind n at Assignment more le = le
  low_behind n at (Constant v) more le = le
  low_behind n at (Parent o) more le = le
  low_behind n at (Method b) more le = le

  assign_low : (n : ℕ) (ks : Slots) (ss : Object) (i name at : ℕ) → AreKinds h p n ks ss → slice_get ks i ≡ Some (name, kind.Assign at) → at ≤ n + length (fields ss) - 1
  assign_low n [] ss i name at are is = absurd (none-some (name, kind.Assign at) is)
  assign_low n (k ∷ ks) [] i name at are is = absurd are
  assign_low n (k ∷ ks) (s ∷ ss) zero name at are is =
      let same = same_Some k (name, kind.Assign at) is in
      low_here n at s.content (fields ss) (subst (λ (q : SlotKind). IsKind h p n q s.content) (ap (λ (q : ℕ × SlotKind). q.1) same) are.1)
  assign_low n (k ∷ ks) (s ∷ ss) (suc i) name at are is = low_behind n at s.content (fields ss) (assign_low (behind n s.content) ks ss i name at are.2 is)

more_held : (c : Content) (more : List Value) → length more ≤ length (held c more)
more_held (Assignable v) more = omega arith
more_held Assignment more = omega arith
more_held (Constant v) more = omega arith
more_held (Parent o) more = omega arith
more_held (Method b) more = omega arith

some_field : (ss : Object) (i own : ℕ) (old : Value) → slice_get ss i ≡ Some (field_slot own old) → 0 < length (fields ss)
some_field [] i own old is = absurd (none-some (field_slot own old) is)
some_field (s ∷ ss) zero own old is = subst (λ (c : Content). 0 < length (held c (fields ss))) (ap (λ (q : Slot). q.content) (sym (same_Some s (field_slot own old) is))) (omega arith)
some_field (s ∷ ss) (suc i) own old is = (let some = some_field ss i own old is in let more = more_held s.content (fields ss) in omega arith)

cell_word_there : (mem : Words) (top w k : ℕ) (h : Cells) (c : Cell) → Laid mem top h → RefersTo h w c → k < size c → InHeap (w - 1 + 4 * k)
cell_word_there mem top w k h c laid r lt =
    let i = laid.inside (w - 1) c r.1 in
    let aligned = i.aligned in
    let above = i.above in
    let below = i.below in
    let within = laid.end.within in
    record { aligned = omega arith; above = omega arith; below = omega arith }

-- so does the first word of an object
pub object_first : (z : Sense) (r : Raw) (s : State) → Stands z r s → (o holder : ℕ) (slots : Object) → slice_get z.places.objects o ≡ Some holder → slice_get s.things o ≡ Some (Plain slots) → InHeap (holder - 1)
object_first z r s S o holder slots there was =
    let object = S.heap.means.object o holder (Plain slots) there was in
    let cell = plain_cell r.maps z.cells z.places o slots object.cell object.is in
    let refers : RefersTo z.cells holder (PlainCell o cell.map cell.words) = (object.there.0, object.there.1 ∙ ap Some cell.is) in
    subst InHeap (let e : holder - 1 + 4 * 0 ≡ holder - 1 = omega arith in e) (cell_word_there r.mem r.heap.top holder 0 z.cells (PlainCell o cell.map cell.words) S.heap.laid refers (omega arith))

-- the data that an assignment slot sets stands in a word of the heap
pub assignment_place : (z : Sense) (r : Raw) (s : State) → Stands z r s → (met : Met) (name holder place : ℕ) → IsAssignment z r s met name holder place → InHeap (holder + 7 + 4 * place)
assignment_place z r s S met name holder place a =
    let object = S.heap.means.object a.object holder (Plain a.slots) a.there a.was in
    let cell = plain_cell r.maps z.cells z.places a.object a.slots object.cell object.is in
    let refers : RefersTo z.cells holder (PlainCell a.object cell.map cell.words) = (object.there.0, object.there.1 ∙ ap Some cell.is) in
    let its_map = map_of_cell r.mem r.heap.top holder z.cells (PlainCell a.object cell.map cell.words) S.heap.laid refers in
    let low = assign_low z.cells z.places 0 (slots_in r.maps cell.map) a.slots (suc a.number) name place cell.kinds (ap (λ (q : ℕ). slice_get (slots_in r.maps q) (suc a.number)) (sym its_map) ∙ a.found) in
    let some = some_field a.slots a.number a.own a.old a.behind.data_slot in
    let long = values_length z.cells z.places (fields a.slots) cell.words cell.holds in
    let tagged = object.there.0 in
    subst InHeap (let e : holder - 1 + 4 * suc (suc place) ≡ holder + 7 + 4 * place = omega arith in e)
    (cell_word_there r.mem r.heap.top holder (suc (suc place)) z.cells (PlainCell a.object cell.map cell.words) S.heap.laid refers (omega arith))

pub assignments_have_words : AssignmentsHaveWords
assignments_have_words z r s S met name holder place a = has_word (holder + 7 + 4 * place) (assignment_place z r s S met name holder place a)
