-- Elements of vectors and bytes of strings, by the words of their places.
use Rattle.std.proofs.Common.{◌≡◌, inl, inr, refl, sym, ap, subst, ◌∙◌, ℕ, zero, suc, ◌+◌, ◌-◌, ◌*◌, ◌/◌, ◌%◌, ◌<◌, ◌≤◌, List, [], ◌∷◌, ℤ, pos, negsuc, length, map, drop, get_or, arith}
use Rattle.std.specs.Prelude.{Some, None, slice_get, slice_set, nat_lt, nat_le, replicate}
use Rattle.std.proofs.lemmas.Option.{same_Some, none-some}
use Rattle.self_terms.specs.Words.{IsSmall, word_of}
use Rattle.self_terms.specs.declared.values.Value.{Value}
use Rattle.self_terms.specs.declared.values.Value.TheVariants as values
use Rattle.self_terms.specs.declared.errors.ErrorName.TheVariants as errors
use Rattle.source_model.specs.declared.objects.Thing.{Thing}
use Rattle.source_model.specs.declared.objects.Thing.TheVariants.{Vector as Elements, Text as Bytes}
use Rattle.source_model.specs.Primitives.{Gives, Makes, Puts, Fails, element, element_at, put_at, new_vector, number}
use Rattle.source_model.specs.declared.objects.Core.{Core}
use Rattle.std.proofs.lemmas.Bool.{cond-true, cond-false, lt-ltb, le-ltb, le-leb, lt-leb}
use Rattle.object_maps.specs.declared.layout.Heap.{Heap}
use Rattle.object_maps.specs.Slots.{Slots}
use Rattle.sparc_store.specs.Words.{Words, word_at, HasWord}
use Rattle.heap_cells.specs.Shapes.{Cell, Plain, Vector, Text, Block, Context, packed, packed_in}
use Rattle.heap_cells.specs.Laying.{Cells}
use Rattle.heap_cells.specs.Source.{Made}
use Rattle.heap_cells.specs.Standing.{Places, RefersTo, AreBytes, IsThing}
use Rattle.heap_cells.specs.Heaps.{IsHeap}
use Rattle.heap_cells.proofs.Numbered.{got_if}
use Rattle.heap_cells.proofs.Fielding.{values_length}
use Rattle.heap_cells.proofs.Stepping.{cell_word, vector_cell}
use Rattle.prim_table.proofs.Operating.{IsInteger}

pub packed_length : (n : ℕ) (bytes : List ℕ) → length (packed_in n bytes) ≡ n
packed_length zero bytes = refl
packed_length (suc n) bytes = ap suc (packed_length n (drop 4 bytes))

-- where the words of a vector or string stand: its size, and so many words behind it
pub record IsHere (mem : Words) (w count words : ℕ) : Type 0 where
  pub tagged : w % 4 ≡ 1
  pub above : 0x20000001 ≤ w
  pub below : w + 11 + 4 * words ≤ 0x20000000 + 46137344
  pub size : word_at mem (w + 7) ≡ 4 * count

pub here_word : (mem : Words) (w count words k at : ℕ) → IsHere mem w count words → k ≤ words → at ≡ w + 7 + 4 * k → HasWord at
here_word mem w count words k at here le e =
    let tagged = here.tagged in
    let above = here.above in
    let below = here.below in
    (omega arith, inr (inl (omega arith, omega arith)))

module _ (maps : List Slots) (mem : Words) (heap : Heap) (h : Cells) (p : Places) (objects : List Thing) (made : List Made) (is : IsHeap maps mem heap h p objects made) where
  pub vector_here : (n w : ℕ) (items : List Value) → slice_get p.objects n ≡ Some w → slice_get objects n ≡ Some (Elements items) → IsHere mem w (length items) (length items)
  vector_here n w items at was =
      let o = is.means.object n w (Elements items) at was in
      let c = vector_cell maps h p n items o.cell o.is in
      let there : RefersTo h w (Vector n c.words) = (o.there.0, o.there.1 ∙ ap Some c.is) in
      let len : length c.words ≡ length items = values_length h p items c.words c.holds in
      let i = is.laid.inside (w - 1) (Vector n c.words) there.1 in
      let end = is.laid.end in
      let within = end.within in
      let tagged = there.0 in
      let above = i.above in
      let below = i.below in
      record {
        tagged = tagged;
        above = omega arith;
        below = omega arith;
        size = cell_word mem heap.top w 2 (w + 7) h (Vector n c.words) is.laid there (omega arith) (omega arith) ∙ ap (λ z. 4 * z) len;
      }

  pub vector_top : (n w : ℕ) (items : List Value) → slice_get p.objects n ≡ Some w → slice_get objects n ≡ Some (Elements items) → w + 11 + 4 * length items ≤ heap.top
  vector_top n w items at was =
      let o = is.means.object n w (Elements items) at was in
      let c = vector_cell maps h p n items o.cell o.is in
      let there : RefersTo h w (Vector n c.words) = (o.there.0, o.there.1 ∙ ap Some c.is) in
      let len : length c.words ≡ length items = values_length h p items c.words c.holds in
      let i = is.laid.inside (w - 1) (Vector n c.words) there.1 in
      let tagged = there.0 in
      let below = i.below in
      omega arith

  -- the cell of a string
  pub record IsTextCell (n : ℕ) (bytes : List ℕ) (c : Cell) : Type 0 where
    pub same : c ≡ Text n bytes
    pub small : AreBytes bytes

  text_cell : (n : ℕ) (bytes : List ℕ) (c : Cell) → IsThing maps h p n (Bytes bytes) c → IsTextCell n bytes c
  text_cell n bytes (Text number text) thing = record { same = λ i. Text (thing.0 i) (thing.1 i); small = thing.2 }
  text_cell n bytes (Plain number map words) thing = absurd thing
  text_cell n bytes (Vector number words) thing = absurd thing
  text_cell n bytes (Block map body context receiver) thing = absurd thing
  text_cell n bytes (Context map outer mark receiver locals) thing = absurd thing

  pub text_words : (n w : ℕ) (bytes : List ℕ) → slice_get p.objects n ≡ Some w → slice_get objects n ≡ Some (Bytes bytes) → RefersTo h w (Text n bytes) × AreBytes bytes
  text_words n w bytes at was =
      let o = is.means.object n w (Bytes bytes) at was in
      let c = text_cell n bytes o.cell o.is in
      ((o.there.0, o.there.1 ∙ ap Some c.same), c.small)

pub text_here : (maps : List Slots) (mem : Words) (heap : Heap) (h : Cells) (p : Places) (objects : List Thing) (made : List Made) → IsHeap maps mem heap h p objects made
    → (n w : ℕ) (bytes : List ℕ) → slice_get p.objects n ≡ Some w → slice_get objects n ≡ Some (Bytes bytes) → IsHere mem w (length bytes) ((length bytes + 3) / 4)
text_here maps mem heap h p objects made is n w bytes at was =
    let there = (text_words maps mem heap h p objects made is n w bytes at was).0 in
    let i = is.laid.inside (w - 1) (Text n bytes) there.1 in
    let end = is.laid.end in
    let within = end.within in
    let tagged = there.0 in
    let above = i.above in
    let below = i.below in
    let count : length (packed bytes) ≡ (length bytes + 3) / 4 = packed_length ((length bytes + 3) / 4) bytes in
    record {
      tagged = tagged;
      above = omega arith;
      below = omega arith;
      size = cell_word mem heap.top w 2 (w + 7) h (Text n bytes) is.laid there (omega arith) (omega arith);
    }

-- a place outside, or inside, by its word
past_end : {A : Type 0} → (xs : List A) (n : ℕ) → length xs ≤ n → slice_get xs n ≡ None
past_end [] n le = refl
past_end (x ∷ xs) zero le = absurd (omega arith)
past_end (x ∷ xs) (suc n) le = past_end xs n (omega arith)

outside_of : (items : List Value) (i : ℤ) → 4 * length items ≤ word_of i → element_at items (values.Int i) ≡ Fails errors.BadIndex
outside_of items (pos n) le = ap element (past_end items n (omega arith))
outside_of items (negsuc n) le = refl

pub element_outside : (items : List Value) (v : Value) (index : ℕ) → IsInteger v index → 4 * length items ≤ index → element_at items v ≡ Fails errors.BadIndex
element_outside items v index x le = ap (element_at items) x.is ∙ outside_of items x.int (subst (λ (z : ℕ). 4 * length items ≤ z) x.word le)

pub record IsInside (items : List Value) (v : Value) (index : ℕ) : Type 0 where
  pub place : ℕ
  pub integer : v ≡ values.Int (pos place)
  pub word : index ≡ 4 * place
  pub within : place < length items
  pub item : Value
  pub got : slice_get items place ≡ Some item
  pub effect : element_at items v ≡ Gives item

inside_of : (items : List Value) (v : Value) (index : ℕ) (i : ℤ) → v ≡ values.Int i → IsSmall i → index ≡ word_of i → index < 4 * length items → length items ≤ 46137344 → IsInside items v index
inside_of items v index (pos n) e small word lt few =
    let within : n < length items = omega arith in
    let g = got_if items n within in
    record { place = n; integer = e; word = word; within = within; item = g.0; got = g.1; effect = ap (element_at items) e ∙ ap element g.1 }
inside_of items v index (negsuc n) e small word lt few = absurd (omega arith)

pub element_inside : (items : List Value) (v : Value) (index : ℕ) → IsInteger v index → index < 4 * length items → length items ≤ 46137344 → IsInside items v index
element_inside items v index x lt few = inside_of items v index x.int x.is x.small x.word lt few

-- an element that is put
put_outside_of : (n : ℕ) (items : List Value) (u : Value) (i : ℤ) → 4 * length items ≤ word_of i → put_at n items (values.Int i) u ≡ Fails errors.BadIndex
put_outside_of n items u (pos k) le = cond-false (nat_lt k (length items)) (Puts n (Elements (slice_set items k u))) (Fails errors.BadIndex) (le-ltb k (length items) (omega arith))
put_outside_of n items u (negsuc k) le = refl

pub put_outside : (n : ℕ) (items : List Value) (v u : Value) (index : ℕ) → IsInteger v index → 4 * length items ≤ index → put_at n items v u ≡ Fails errors.BadIndex
put_outside n items v u index x le = ap (λ (z : Value). put_at n items z u) x.is ∙ put_outside_of n items u x.int (subst (λ (z : ℕ). 4 * length items ≤ z) x.word le)

pub record IsPut (n : ℕ) (items : List Value) (v u : Value) (index : ℕ) : Type 0 where
  pub place : ℕ
  pub word : index ≡ 4 * place
  pub within : place < length items
  pub effect : put_at n items v u ≡ Puts n (Elements (slice_set items place u))

put_inside_of : (n : ℕ) (items : List Value) (v u : Value) (index : ℕ) (i : ℤ) → v ≡ values.Int i → IsSmall i → index ≡ word_of i → index < 4 * length items → length items ≤ 46137344 → IsPut n items v u index
put_inside_of n items v u index (pos k) e small word lt few =
    let within : k < length items = omega arith in
    record {
      place = k;
      word = word;
      within = within;
      effect = ap (λ (z : Value). put_at n items z u) e ∙ cond-true (nat_lt k (length items)) (Puts n (Elements (slice_set items k u))) (Fails errors.BadIndex) (lt-ltb k (length items) within);
    }
put_inside_of n items v u index (negsuc k) e small word lt few = absurd (omega arith)

pub put_inside : (n : ℕ) (items : List Value) (v u : Value) (index : ℕ) → IsInteger v index → index < 4 * length items → length items ≤ 46137344 → IsPut n items v u index
put_inside n items v u index x lt few = put_inside_of n items v u index x.int x.is x.small x.word lt few

-- a vector of so many nils
pub record IsCount (known : Core) (v : Value) (w : ℕ) : Type 0 where
  pub count : ℕ
  pub word : w ≡ 4 * count
  pub effect : new_vector known v ≡ Makes (3 + count) (Elements (replicate count (values.Object known.nil)))

counted_of : (known : Core) (v : Value) (w : ℕ) (i : ℤ) → v ≡ values.Int i → IsSmall i → w ≡ word_of i → w ≤ 262144 → IsCount known v w
counted_of known v w (pos n) e small word le =
    record {
      count = n;
      word = word;
      effect = ap (new_vector known) e ∙ cond-true (nat_le n 65536) (Makes (3 + n) (Elements (replicate n (values.Object known.nil)))) (Fails errors.BadSize) (le-leb n 65536 (omega arith));
    }
counted_of known v w (negsuc n) e small word le = absurd (omega arith)

pub counted : (known : Core) (v : Value) (w : ℕ) → IsInteger v w → w ≤ 262144 → IsCount known v w
counted known v w x le = counted_of known v w x.int x.is x.small x.word le

miscounted_of : (known : Core) (i : ℤ) → 262144 < word_of i → new_vector known (values.Int i) ≡ Fails errors.BadSize
miscounted_of known (pos n) lt = cond-false (nat_le n 65536) (Makes (3 + n) (Elements (replicate n (values.Object known.nil)))) (Fails errors.BadSize) (lt-leb n 65536 (omega arith))
miscounted_of known (negsuc n) lt = refl

pub miscounted : (known : Core) (v : Value) (w : ℕ) → IsInteger v w → 262144 < w → new_vector known v ≡ Fails errors.BadSize
miscounted known v w x lt = ap (new_vector known) x.is ∙ miscounted_of known x.int (subst (λ (z : ℕ). 262144 < z) x.word lt)

-- an element among bytes as integers
pub number_got : (bytes : List ℕ) (k : ℕ) (v : Value) → slice_get (map number bytes) k ≡ Some v → v ≡ number (get_or bytes k 0)
number_got [] k v e = absurd (none-some v e)
number_got (b ∷ bs) zero v e = sym (same_Some (number b) v e)
number_got (b ∷ bs) (suc k) v e = number_got bs k v e
