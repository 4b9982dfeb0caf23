-- Clones by the effect that the definition gives.
use Rattle.std.proofs.Common.{◌≡◌, sym, ap, subst, ◌∙◌, ℕ, suc, ◌+◌, ◌-◌, ◌*◌, ◌/◌, ◌%◌, ◌<◌, List, [], ◌∷◌, length, arith}
use Rattle.std.specs.Prelude.{Option, Some, slice_get, nat_eq, nat_lt, cond, fold}
use Rattle.std.proofs.lemmas.Bool.{cond-true, eq-eqb, lt-ltb}
use Rattle.self_terms.specs.declared.values.BodyId.{BodyId}
use Rattle.self_terms.specs.declared.values.Value.{Value}
use Rattle.self_terms.specs.declared.values.Value.TheVariants as values
use Rattle.self_terms.specs.declared.errors.ErrorName.TheVariants as errors
use Rattle.source_model.specs.declared.objects.Slot.{Slot}
use Rattle.source_model.specs.declared.objects.Content.{Content}
use Rattle.source_model.specs.declared.objects.Content.TheVariants.{Constant, Assignable, Assignment, Parent, Method}
use Rattle.source_model.specs.declared.objects.Thing.{Thing}
use Rattle.source_model.specs.declared.objects.Thing.TheVariants.{Plain as Slotted, Vector as Elements, Text as Bytes}
use Rattle.source_model.specs.Objects.{fields as field_number, is_assignable}
use Rattle.source_model.specs.Primitives.{Fails, cloned, thing_in}
use Rattle.object_maps.specs.declared.layout.Heap.{Heap}
use Rattle.object_maps.specs.Slots.{Slots}
use Rattle.object_maps.specs.Layout.{map_at}
use Rattle.sparc_store.specs.Words.{Words, word_at}
use Rattle.heap_cells.specs.Shapes.{Cell, Plain, Vector, Text}
use Rattle.heap_cells.specs.Laying.{Cells}
use Rattle.heap_cells.specs.Source.{Made, held, fields}
use Rattle.heap_cells.specs.Standing.{Places, RefersTo, IsValue, IsThing}
use Rattle.heap_cells.specs.Heaps.{IsHeap}
use Rattle.heap_cells.specs.Cloning.{clone_words, IsNoBlock, IsClone, copied, copied_of}
use Rattle.heap_cells.proofs.Fielding.{values_length}
use Rattle.heap_cells.proofs.Stepping.{map_of_cell}
use Rattle.heap_cells.proofs.Reading.{integer_aligned}
use Rattle.heap_cells.proofs.Cloned.{clone_size}
use Rattle.prim_table.specs.declared.answers.PrimAnswer.TheVariants as answers
use Rattle.prim_table.specs.Answers.{IsAnswer, cost}
use Rattle.prim_table.proofs.Sorting.{got_thing}

pub block_refused : (things : List Thing) (v : Value) → ((b : BodyId) × (k : ℕ) × (v ≡ values.Block b k)) → cloned v (thing_in things v) ≡ Fails errors.BadType
block_refused things v b = ap (λ (z : Value). cloned z (thing_in things z)) b.2

-- assignable slots, counted and listed
counted_from : (n : ℕ) (slots : List Slot) → fold (λ (n : ℕ) (x : Slot). n + cond (is_assignable x.content) 1 0) n slots ≡ n + length (fields slots)
counted_from n [] = omega arith
counted_from n (x ∷ xs) = counted_from (n + cond (is_assignable x.content) 1 0) xs ∙ one x.content
  where
    one : (c : Content) → n + cond (is_assignable c) 1 0 + length (fields xs) ≡ n + length (held c (fields xs))
    one (Constant v) = omega arith
    one (Assignable v) = omega arith
    one Assignment = omega arith
    one (Parent o) = omega arith
    one (Method b) = omega arith

fields_are : (slots : List Slot) → field_number slots ≡ length (fields slots)
fields_are slots = let e : 0 + length (fields slots) ≡ length (fields slots) = omega arith in counted_from 0 slots ∙ e

module _ (maps : List Slots) (mem : Words) (heap : Heap) (h : Cells) (p : Places) (objects : List Thing) (made : List Made) (is : IsHeap maps mem heap h p objects made) where
  nothing : (w : ℕ) → map_at mem w < 2 → clone_words maps mem w ≡ 0
  nothing w lt = cond-true (nat_lt (map_at mem w) 2) 0 _ (lt-ltb (map_at mem w) 2 lt)

  thing_room : (n w : ℕ) (t : Thing) (c : Cell) → IsThing maps h p n t c → RefersTo h w c → clone_words maps mem w ≡ cost (cloned (values.Object n) (Some t))
  thing_room n w (Slotted slots) (Plain number map words) of there =
      let e = map_of_cell mem heap.top w h (Plain number map words) is.laid there in
      let three = of.1 in
      let sum : suc (suc (length words)) ≡ 2 + length words = omega arith in
      (clone_size maps mem heap h p objects made is n w (Slotted slots) (Plain number map words) of there (omega arith)).0 ∙ sum
      ∙ ap (λ z. 2 + z) (values_length h p (fields slots) words of.3 ∙ sym (fields_are slots))
  thing_room n w (Elements items) (Vector number words) of there =
      let e = map_of_cell mem heap.top w h (Vector number words) is.laid there in
      let sum : suc (suc (suc (length words))) ≡ 3 + length words = omega arith in
      (clone_size maps mem heap h p objects made is n w (Elements items) (Vector number words) of there (omega arith)).0 ∙ sum
      ∙ ap (λ z. 3 + z) (values_length h p items words of.1)
  thing_room n w (Bytes bytes) (Text number text) of there = nothing w (let e = map_of_cell mem heap.top w h (Text number text) is.laid there in omega arith)
  thing_room n w _ _ of there = absurd of

  -- a clone takes the words that the definition counts
  pub clone_room : (v : Value) (w : ℕ) → IsValue h p v w → IsNoBlock v → clone_words maps mem w ≡ cost (cloned v (thing_in objects v))
  clone_room (values.Int i) w value no_block =
      let e : w % 4 ≡ 0 = ap (λ z. z % 4) value.1 ∙ integer_aligned i value.0 in
      let m : map_at mem w ≡ 0 = cond-true (nat_eq (w % 4) 0) 0 (word_at mem (w - 1) / 4) (eq-eqb (w % 4) 0 e) in
      nothing w (omega arith)
  clone_room (values.Object n) w value no_block =
      let t = got_thing maps mem heap h p objects made is n w value in
      let o = is.means.object n w t.0 value t.1 in
      thing_room n w t.0 o.cell o.is o.there ∙ ap (λ (z : Option Thing). cost (cloned (values.Object n) z)) (sym t.1)
  clone_room (values.Block body maker) w value no_block = absurd no_block

  thing_answer : (n w : ℕ) (new : Words) (heap_new : Heap) (result : ℕ) (t : Thing) → slice_get objects n ≡ Some t → slice_get p.objects n ≡ Some w
      → heap_new.top ≡ heap.top + 4 * cost (cloned (values.Object n) (Some t)) → IsClone maps mem new heap heap_new h p objects made w result (copied_of (Some t))
      → IsAnswer maps mem new heap heap_new h p objects made w (answers.Done result) (cloned (values.Object n) (Some t))
  thing_answer n w new heap_new result (Slotted slots) at value top clone = (clone, top)
  thing_answer n w new heap_new result (Elements items) at value top clone = (clone, top)
  thing_answer n w new heap_new result (Bytes bytes) at value top clone = (value ∙ ap Some (sym clone.0), clone.1, clone.2)

  pub clone_answer : (v : Value) (w : ℕ) → IsValue h p v w → IsNoBlock v → (new : Words) (heap_new : Heap) (result : ℕ) → heap_new.top ≡ heap.top + 4 * clone_words maps mem w
      → IsClone maps mem new heap heap_new h p objects made w result (copied objects v)
      → IsAnswer maps mem new heap heap_new h p objects made w (answers.Done result) (cloned v (thing_in objects v))
  clone_answer (values.Int i) w value no_block new heap_new result top clone = (subst (λ (z : ℕ). IsValue h p (values.Int i) z) (sym clone.0) value, clone.1, clone.2)
  clone_answer (values.Object n) w value no_block new heap_new result top clone =
      let t = got_thing maps mem heap h p objects made is n w value in
      let room = clone_room (values.Object n) w value no_block ∙ ap (λ (z : Option Thing). cost (cloned (values.Object n) z)) t.1 in
      subst (λ (z : Option Thing). IsAnswer maps mem new heap heap_new h p objects made w (answers.Done result) (cloned (values.Object n) z)) (sym t.1)
      (thing_answer n w new heap_new result t.0 t.1 value (top ∙ ap (λ z. heap.top + 4 * z) room)
      (subst (λ (z : Option Thing). IsClone maps mem new heap heap_new h p objects made w result (copied_of z)) t.1 clone))
  clone_answer (values.Block body maker) w value no_block new heap_new result top clone = absurd no_block
