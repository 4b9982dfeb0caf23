-- Equal words stand for equal values.
use Rattle.std.proofs.Common.{◌≡◌, ◌≢◌, inl, inr, refl, sym, ap, ◌∙◌, ℕ, ◌%◌, Bool, true, false, List, [], ◌∷◌, ℤ, pos, negsuc, arith}
use Rattle.std.specs.Prelude.{Some, slice_get, nat_eq, nat_le, ◌&&◌}
use Rattle.std.proofs.lemmas.Bool.{cases_eq, eq-eqb, ne_eqb, le-leb, leb-true}
use Rattle.std.proofs.lemmas.Option.{same_Some}
use Rattle.self_terms.specs.Words.{word_of}
use Rattle.self_terms.specs.declared.values.BodyId.{BodyId}
use Rattle.self_terms.specs.declared.values.Value.{Value}
use Rattle.self_terms.specs.declared.values.Value.TheVariants as values
use Rattle.self_terms.specs.declared.errors.ErrorName.TheVariants as errors
use Rattle.source_model.specs.declared.objects.Thing.{Thing}
use Rattle.source_model.specs.Primitives.{Fails, same, truth, int_eq}
use Rattle.source_model.specs.declared.objects.Core.{Core}
use Rattle.object_maps.specs.declared.layout.Heap.{Heap}
use Rattle.object_maps.specs.Slots.{Slots}
use Rattle.sparc_store.specs.Words.{Words}
use Rattle.heap_cells.specs.Laying.{Cells}
use Rattle.heap_cells.specs.Source.{Made}
use Rattle.heap_cells.specs.Standing.{Places, IsValue}
use Rattle.heap_cells.specs.Heaps.{IsHeap}
use Rattle.heap_cells.specs.Cloning.{IsNoBlock}
use Rattle.heap_cells.proofs.Reading.{integer_aligned, heap_sound}
use Rattle.prim_table.proofs.Sorting.{tagged}
use Rattle.prim_table.proofs.Operating.{word_read}
use Rattle.self_terms.specs.Words.{int_of}

pub refused_first : (known : Core) (v u : Value) → ((b : BodyId) × (k : ℕ) × (v ≡ values.Block b k)) → same known v (u ∷ []) ≡ Fails errors.BadType
refused_first known v u b = ap (λ (z : Value). same known z (u ∷ [])) b.2

second : (known : Core) (v : Value) (b : BodyId) (k : ℕ) → same known v (values.Block b k ∷ []) ≡ Fails errors.BadType
second known (values.Int i) b k = refl
second known (values.Object n) b k = refl
second known (values.Block body maker) b k = refl

pub refused_second : (known : Core) (v u : Value) → ((b : BodyId) × (k : ℕ) × (u ≡ values.Block b k)) → same known v (u ∷ []) ≡ Fails errors.BadType
refused_second known v u b = ap (λ (z : Value). same known v (z ∷ [])) b.2 ∙ second known v b.0 b.1

-- equal integers
both : (a b : Bool) → a ≡ true → b ≡ true → (a && b) ≡ true
both true true e f = refl
both true false e f = f
both false b e f = e

self_equal : (i : ℤ) → int_eq i i ≡ true
self_equal (pos n) = both (nat_le n n) (nat_le n n) (le-leb n n (omega arith)) (le-leb n n (omega arith))
self_equal (negsuc n) = both (nat_le n n) (nat_le n n) (le-leb n n (omega arith)) (le-leb n n (omega arith))

antisym : (m n : ℕ) → m ≢ n → (nat_le m n && nat_le n m) ≡ false
antisym m n ne = by_order (nat_le m n) (nat_le n m) (λ a b. ne (let x = leb-true m n a in let y = leb-true n m b in omega arith))
  where
    by_order : (a b : Bool) → (a ≡ true → b ≡ true → ⊥) → (a && b) ≡ false
    by_order true true f = absurd (f refl refl)
    by_order true false f = refl
    by_order false b f = refl

unequal : (i j : ℤ) → i ≢ j → int_eq i j ≡ false
unequal (pos m) (pos n) ne = antisym m n (λ e. ne (ap pos e))
unequal (pos m) (negsuc n) ne = refl
unequal (negsuc m) (pos n) ne = refl
unequal (negsuc m) (negsuc n) ne = antisym n m (λ e. ne (ap negsuc (sym e)))

module _ (maps : List Slots) (mem : Words) (heap : Heap) (h : Cells) (p : Places) (objects : List Thing) (made : List Made) (is : IsHeap maps mem heap h p objects made) where
  -- no two objects stand in one place
  one_number : (m n w : ℕ) → slice_get p.objects m ≡ Some w → slice_get p.objects n ≡ Some w → m ≡ n
  one_number m n w a b =
      let s = heap_sound maps mem heap h p objects made is in
      let x = (s.object m w a).numbered in
      let y = (s.object n w b).numbered in
      omega arith

  pub same_words : (known : Core) (v u : Value) (a b : ℕ) → IsValue h p v a → IsValue h p u b → IsNoBlock v → IsNoBlock u → same known v (u ∷ []) ≡ truth known (nat_eq a b)
  same_words known (values.Int i) (values.Int j) a b x y f g = ap (truth known) (elim (cases_eq a b) [
    | inl e ↦ ap (int_eq i) (sym (sym (word_read i x.0) ∙ ap int_of (sym x.1 ∙ e ∙ y.1) ∙ word_read j y.0)) ∙ self_equal i ∙ sym (eq-eqb a b e)
    | inr ne ↦ unequal i j (λ e. ne (x.1 ∙ ap word_of e ∙ sym y.1)) ∙ sym (ne_eqb a b ne)
  ])
  same_words known (values.Int i) (values.Object n) a b x y f g =
      let one = tagged maps mem heap h p objects made is n b y in
      let whole : a % 4 ≡ 0 = ap (λ z. z % 4) x.1 ∙ integer_aligned i x.0 in
      ap (truth known) (sym (ne_eqb a b (λ e. omega arith)))
  same_words known (values.Object m) (values.Int j) a b x y f g =
      let one = tagged maps mem heap h p objects made is m a x in
      let whole : b % 4 ≡ 0 = ap (λ z. z % 4) y.1 ∙ integer_aligned j y.0 in
      ap (truth known) (sym (ne_eqb a b (λ e. omega arith)))
  same_words known (values.Object m) (values.Object n) a b x y f g = ap (truth known) (elim (cases_eq a b) [
    | inl e ↦ eq-eqb m n (one_number m n b (x ∙ ap Some e) y) ∙ sym (eq-eqb a b e)
    | inr ne ↦ ne_eqb m n (λ e. ne (same_Some a b (sym x ∙ ap (slice_get p.objects) e ∙ y))) ∙ sym (ne_eqb a b ne)
  ])
  same_words known (values.Block body maker) u a b x y f g = absurd f
  same_words known (values.Int i) (values.Block body maker) a b x y f g = absurd g
  same_words known (values.Object n) (values.Block body maker) a b x y f g = absurd g
