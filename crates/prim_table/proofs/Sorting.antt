-- What a word's map tells of the value that it stands for.
use Rattle.std.proofs.Common.{◌≡◌, refl, sym, ap, subst, ◌∙◌, ℕ, zero, suc, ◌-◌, ◌/◌, ◌%◌, ◌≤◌, true, false, List, [], ◌∷◌, arith}
use Rattle.std.specs.Prelude.{Option, Some, None, slice_get, nat_eq, cond}
use Rattle.std.proofs.lemmas.Bool.{cond-true, cond-false, eq-eqb, ne_eqb, false≢true}
use Rattle.std.proofs.lemmas.Option.{slice_get_within}
use Rattle.self_terms.specs.declared.values.Value.{Value}
use Rattle.self_terms.specs.declared.values.Value.TheVariants as values
use Rattle.self_terms.specs.declared.values.BodyId.{BodyId}
use Rattle.self_terms.specs.declared.errors.ErrorName.TheVariants as errors
use Rattle.source_model.specs.Primitives.{Fails, size, at, put, string_print, thing_in}
use Rattle.source_model.specs.declared.objects.Thing.{Thing}
use Rattle.source_model.specs.declared.objects.Thing.TheVariants.{Plain as Slotted, Vector as Elements, Text as Bytes}
use Rattle.object_maps.specs.declared.layout.Heap.{Heap}
use Rattle.object_maps.specs.declared.maps.SlotKind.{SlotKind}
use Rattle.object_maps.specs.declared.maps.SlotKind.TheVariants as kind
use Rattle.object_maps.specs.Slots.{Slots, slots_in, slot_named}
use Rattle.object_maps.specs.Layout.{map_at}
use Rattle.object_maps.specs.Sound.{IsValue as IsSoundValue}
use Rattle.sparc_store.specs.Words.{Words, word_at}
use Rattle.heap_cells.specs.Shapes.{Cell, Plain, Vector, Text, Block, map_in}
use Rattle.heap_cells.specs.Laying.{Cells}
use Rattle.heap_cells.specs.Source.{Made}
use Rattle.heap_cells.specs.Standing.{Places, IsValue, IsThing}
use Rattle.heap_cells.specs.Heaps.{IsHeap, IsBlockMap, IsTold}
use Rattle.heap_cells.specs.Cloning.{IsNoBlock}
use Rattle.heap_cells.proofs.Numbered.{got_if}
use Rattle.heap_cells.proofs.Stepping.{map_of_cell}
use Rattle.heap_cells.proofs.Reading.{integer_aligned, value_sound}
use Rattle.prim_table.specs.declared.sorts.Sort.{Sort}
use Rattle.prim_table.specs.declared.sorts.Sort.TheVariants as sorts
use Rattle.prim_table.specs.Answers.{AreTagged}
use Rattle.prim_table.specs.Operands.{Operand, VectorAt, TextAt, sort_of_thing, sort_of, sort_named, sort_at, is_block_sort}

by_map : ℕ → Option SlotKind → Sort
by_map m k = cond (nat_eq m 0) sorts.Integer (cond (nat_eq m 1) sorts.Text (cond (nat_eq m 2) sorts.Vector (sort_named k)))

high_map : (m : ℕ) (k : Option SlotKind) → 3 ≤ m → by_map m k ≡ sort_named k
unfolding by_map
high_map m k high =
    cond-false (nat_eq m 0) sorts.Integer _ (ne_eqb m 0 (λ e. omega arith))
    ∙ cond-false (nat_eq m 1) sorts.Text _ (ne_eqb m 1 (λ e. omega arith))
    ∙ cond-false (nat_eq m 2) sorts.Vector _ (ne_eqb m 2 (λ e. omega arith))

-- the map of a block has a slot of the name 0
named_first : (e body traits : ℕ) → sort_named (slot_named 0 ((e, kind.Method (record { 0 = body })) ∷ (0, kind.Parent traits) ∷ [])) ≡ sorts.Block
named_first zero body traits = refl
named_first (suc e) body traits = ap sort_named (cond-false (nat_eq 0 (suc e)) (Some (kind.Method (record { 0 = body }))) (Some (kind.Parent traits)) (ne_eqb 0 (suc e) (λ f. omega arith)))

block_sort : (body : ℕ) (slots : Slots) → IsBlockMap body slots → sort_named (slot_named 0 slots) ≡ sorts.Block
block_sort body slots is = subst (λ (z : Slots). sort_named (slot_named 0 z) ≡ sorts.Block) (sym is.are) (named_first is.evaluator body is.traits)

module _ (maps : List Slots) (mem : Words) (heap : Heap) (h : Cells) (p : Places) (objects : List Thing) (made : List Made) (is : IsHeap maps mem heap h p objects made) where
  of_thing : (n w : ℕ) (t : Thing) (c : Cell) → IsThing maps h p n t c → IsTold maps c → by_map (map_in c) (slot_named 0 (slots_in maps (map_in c))) ≡ sort_of_thing (Some t)
  unfolding by_map
  of_thing n w (Slotted slots) (Plain number map words) thing told = high_map map (slot_named 0 (slots_in maps map)) thing.1 ∙ ap sort_named told
  of_thing n w (Elements items) (Vector number words) thing told = refl
  of_thing n w (Bytes bytes) (Text number text) thing told = refl
  of_thing n w _ _ thing told = absurd thing

  at_map : (w m : ℕ) → map_at mem w ≡ m → sort_at maps mem w ≡ by_map m (slot_named 0 (slots_in maps m))
  unfolding by_map
  at_map w m e = ap (λ z. by_map z (slot_named 0 (slots_in maps z))) e

  pub got_thing : (n w : ℕ) → slice_get p.objects n ≡ Some w → (t : Thing) × (slice_get objects n ≡ Some t)
  got_thing n w at = got_if objects n (let lt = slice_get_within p.objects n w at in let len = is.means.objects_all in omega arith)

  pub tagged : AreTagged p
  tagged n w at = let t = got_thing n w at in let o = is.means.object n w t.0 at t.1 in o.there.0

  pub sorted : (v : Value) (w : ℕ) → IsValue h p v w → sort_at maps mem w ≡ sort_of objects v
  unfolding by_map
  sorted (values.Int i) w value =
      let e : w % 4 ≡ 0 = ap (λ z. z % 4) value.1 ∙ integer_aligned i value.0 in
      at_map w 0 (cond-true (nat_eq (w % 4) 0) 0 (word_at mem (w - 1) / 4) (eq-eqb (w % 4) 0 e))
  sorted (values.Object n) w value =
      let t = got_thing n w value in
      let o = is.means.object n w t.0 value t.1 in
      at_map w (map_in o.cell) (map_of_cell mem heap.top w h o.cell is.laid o.there)
      ∙ of_thing n w t.0 o.cell o.is (is.told (w - 1) o.cell o.there.1) ∙ ap sort_of_thing (sym t.1)
  sorted (values.Block body maker) w value =
      let c : Cell = Block value.map body.0 value.context value.receiver in
      let told : IsTold maps c = is.told (w - 1) c value.cell in
      at_map w value.map (map_of_cell mem heap.top w h c is.laid (value.tagged, value.cell))
      ∙ high_map value.map (slot_named 0 (slots_in maps value.map)) told.0 ∙ block_sort body.0 (slots_in maps value.map) told.1

pub sound : (maps : List Slots) (mem : Words) (heap : Heap) (w : ℕ) → Operand maps mem heap w → IsSoundValue maps mem w
sound maps mem heap w o = value_sound maps mem heap o.cells o.places o.objects o.made o.is o.value w o.stands

-- sorts as tests
abbrev pub IsVector : Sort → Type 0
IsVector sorts.Vector = Unit {0}
IsVector _ = ⊥

abbrev pub IsText : Sort → Type 0
IsText sorts.Text = Unit {0}
IsText _ = ⊥

pub record VectorFound (p : Places) (objects : List Thing) (v : Value) (w : ℕ) : Type 0 where
  pub number : ℕ
  pub items : List Value
  pub is : v ≡ values.Object number
  pub at : slice_get p.objects number ≡ Some w
  pub was : slice_get objects number ≡ Some (Elements items)

pub record TextFound (p : Places) (objects : List Thing) (v : Value) (w : ℕ) : Type 0 where
  pub number : ℕ
  pub bytes : List ℕ
  pub is : v ≡ values.Object number
  pub at : slice_get p.objects number ≡ Some w
  pub was : slice_get objects number ≡ Some (Bytes bytes)

found_vector : (p : Places) (objects : List Thing) (n w : ℕ) → slice_get p.objects n ≡ Some w → (t : Option Thing) → slice_get objects n ≡ t → IsVector (sort_of_thing t) → VectorFound p objects (values.Object n) w
found_vector p objects n w at (Some (Elements items)) e s = record { number = n; items = items; is = refl; at = at; was = e }
found_vector p objects n w at (Some (Slotted slots)) e s = absurd s
found_vector p objects n w at (Some (Bytes bytes)) e s = absurd s
found_vector p objects n w at None e s = absurd s

found_text : (p : Places) (objects : List Thing) (n w : ℕ) → slice_get p.objects n ≡ Some w → (t : Option Thing) → slice_get objects n ≡ t → IsText (sort_of_thing t) → TextFound p objects (values.Object n) w
found_text p objects n w at (Some (Bytes bytes)) e s = record { number = n; bytes = bytes; is = refl; at = at; was = e }
found_text p objects n w at (Some (Slotted slots)) e s = absurd s
found_text p objects n w at (Some (Elements items)) e s = absurd s
found_text p objects n w at None e s = absurd s

pub vector_found : (h : Cells) (p : Places) (objects : List Thing) (v : Value) (w : ℕ) → IsValue h p v w → IsVector (sort_of objects v) → VectorFound p objects v w
vector_found h p objects (values.Int i) w value s = absurd s
vector_found h p objects (values.Object n) w value s = found_vector p objects n w value (slice_get objects n) refl s
vector_found h p objects (values.Block body maker) w value s = absurd s

pub text_found : (h : Cells) (p : Places) (objects : List Thing) (v : Value) (w : ℕ) → IsValue h p v w → IsText (sort_of objects v) → TextFound p objects v w
text_found h p objects (values.Int i) w value s = absurd s
text_found h p objects (values.Object n) w value s = found_text p objects n w value (slice_get objects n) refl s
text_found h p objects (values.Block body maker) w value s = absurd s

pub vector_at : (maps : List Slots) (mem : Words) (heap : Heap) (w : ℕ) → Operand maps mem heap w → sort_at maps mem w ≡ sorts.Vector → VectorAt maps mem heap w
vector_at maps mem heap w o s =
    let f = vector_found o.cells o.places o.objects o.value w o.stands (subst IsVector (sym s ∙ sorted maps mem heap o.cells o.places o.objects o.made o.is o.value w o.stands) tt) in
    record { cells = o.cells; places = o.places; objects = o.objects; made = o.made; is = o.is; number = f.number; items = f.items; at = f.at; was = f.was }

pub text_at : (maps : List Slots) (mem : Words) (heap : Heap) (w : ℕ) → Operand maps mem heap w → sort_at maps mem w ≡ sorts.Text → TextAt maps mem heap w
text_at maps mem heap w o s =
    let f = text_found o.cells o.places o.objects o.value w o.stands (subst IsText (sym s ∙ sorted maps mem heap o.cells o.places o.objects o.made o.is o.value w o.stands) tt) in
    record { cells = o.cells; places = o.places; objects = o.objects; made = o.made; is = o.is; number = f.number; bytes = f.bytes; at = f.at; was = f.was }

-- what is neither a vector nor a string has no size and no elements
unsized_thing : (t : Option Thing) → (sort_of_thing t ≡ sorts.Vector → ⊥) → (sort_of_thing t ≡ sorts.Text → ⊥) → size t ≡ Fails errors.BadType
unsized_thing (Some (Slotted slots)) a b = refl
unsized_thing (Some (Elements items)) a b = absurd (a refl)
unsized_thing (Some (Bytes bytes)) a b = absurd (b refl)
unsized_thing None a b = refl

unindexed_thing : (t : Option Thing) (u : Value) → (sort_of_thing t ≡ sorts.Vector → ⊥) → (sort_of_thing t ≡ sorts.Text → ⊥) → at t u ≡ Fails errors.BadType
unindexed_thing (Some (Slotted slots)) u a b = refl
unindexed_thing (Some (Elements items)) u a b = absurd (a refl)
unindexed_thing (Some (Bytes bytes)) u a b = absurd (b refl)
unindexed_thing None u a b = refl

pub unsized : (things : List Thing) (v : Value) → (sort_of things v ≡ sorts.Vector → ⊥) → (sort_of things v ≡ sorts.Text → ⊥) → size (thing_in things v) ≡ Fails errors.BadType
unsized things (values.Int i) a b = refl
unsized things (values.Object n) a b = unsized_thing (slice_get things n) a b
unsized things (values.Block body maker) a b = refl

pub unindexed_at : (things : List Thing) (v u : Value) → (sort_of things v ≡ sorts.Vector → ⊥) → (sort_of things v ≡ sorts.Text → ⊥) → at (thing_in things v) u ≡ Fails errors.BadType
unindexed_at things (values.Int i) u a b = refl
unindexed_at things (values.Object n) u a b = unindexed_thing (slice_get things n) u a b
unindexed_at things (values.Block body maker) u a b = refl

-- what is no vector takes no elements
unput_thing : (o : ℕ) (t : Option Thing) (u x : Value) → (sort_of_thing t ≡ sorts.Vector → ⊥) → put (values.Object o) t (u ∷ x ∷ []) ≡ Fails errors.BadType
unput_thing o (Some (Slotted slots)) u x a = refl
unput_thing o (Some (Elements items)) u x a = absurd (a refl)
unput_thing o (Some (Bytes bytes)) u x a = refl
unput_thing o None u x a = refl

pub unput : (things : List Thing) (v u x : Value) → (sort_of things v ≡ sorts.Vector → ⊥) → put v (thing_in things v) (u ∷ x ∷ []) ≡ Fails errors.BadType
unput things (values.Int i) u x a = refl
unput things (values.Object n) u x a = unput_thing n (slice_get things n) u x a
unput things (values.Block body maker) u x a = refl

-- what is no string isn't printed as one
unprinted_thing : (t : Option Thing) → (sort_of_thing t ≡ sorts.Text → ⊥) → string_print t ≡ Fails errors.BadType
unprinted_thing (Some (Slotted slots)) a = refl
unprinted_thing (Some (Elements items)) a = refl
unprinted_thing (Some (Bytes bytes)) a = absurd (a refl)
unprinted_thing None a = refl

pub unprinted : (things : List Thing) (v : Value) → (sort_of things v ≡ sorts.Text → ⊥) → string_print (thing_in things v) ≡ Fails errors.BadType
unprinted things (values.Int i) a = refl
unprinted things (values.Object n) a = unprinted_thing (slice_get things n) a
unprinted things (values.Block body maker) a = refl

-- blocks
pub block_named : (things : List Thing) (v : Value) → is_block_sort (sort_of things v) ≡ true → (b : BodyId) × (k : ℕ) × (v ≡ values.Block b k)
block_named things (values.Int i) e = absurd (false≢true e)
block_named things (values.Object n) e = absurd (false≢true (sym (no_block (slice_get things n)) ∙ e))
  where
    no_block : (t : Option Thing) → is_block_sort (sort_of_thing t) ≡ false
    no_block (Some (Slotted slots)) = refl
    no_block (Some (Elements items)) = refl
    no_block (Some (Bytes bytes)) = refl
    no_block None = refl
block_named things (values.Block body maker) e = (body, maker, refl)

pub unblocked : (things : List Thing) (v : Value) → is_block_sort (sort_of things v) ≡ false → IsNoBlock v
unblocked things (values.Int i) e = tt
unblocked things (values.Object n) e = tt
unblocked things (values.Block body maker) e = absurd (false≢true (sym e))
