-- Strings and integers by their words.
use Rattle.std.proofs.Common.{◌≡◌, ◌≢◌, inl, inr, refl, sym, ap, subst, ◌∙◌, ℕ, zero, suc, ◌+◌, ◌/◌, ◌%◌, ◌<◌, ◌≤◌, List, [], ◌∷◌, length, get_or, arith}
use Rattle.std.specs.Prelude.{Option, Some, None, nat_eq, cond, slice_get}
use Rattle.std.proofs.lemmas.Bool.{cond-false, ne_eqb}
use Rattle.self_terms.specs.Words.{int_of}
use Rattle.self_terms.specs.declared.values.Value.{Value}
use Rattle.self_terms.specs.declared.values.Value.TheVariants as values
use Rattle.sparc_store.specs.Words.{Words, word_at, byte_at, HasWord, HasByte}
use Rattle.object_maps.specs.declared.layout.Heap.{Heap}
use Rattle.object_maps.specs.declared.maps.SlotKind.{SlotKind}
use Rattle.object_maps.specs.Slots.{Slots, slots_in, slot_named}
use Rattle.object_maps.specs.Layout.{map_at}
use Rattle.source_model.specs.declared.objects.Thing.{Thing}
use Rattle.source_model.specs.declared.objects.Thing.TheVariants.{Text as Bytes}
use Rattle.source_model.specs.Primitives.{int_print, string_print, thing_in}
use Rattle.source_model.specs.Texts.{integer_text, out_line}
use Rattle.heap_cells.specs.Heaps.{IsHeap}
use Rattle.heap_cells.specs.Laying.{Cells}
use Rattle.heap_cells.specs.Source.{Made}
use Rattle.heap_cells.specs.Standing.{Places, IsValue}
use Rattle.heap_cells.proofs.Reading.{integer_aligned}
use Rattle.prim_table.specs.Operands.{Operand, TextAt, sort_at, sort_named}
use Rattle.prim_table.specs.declared.sorts.Sort.{Sort}
use Rattle.prim_table.specs.declared.sorts.Sort.TheVariants as sorts
use Rattle.prim_table.proofs.Sorting.{IsText, sorted, tagged, text_at, text_found, unprinted}
use Rattle.prim_table.proofs.Indexing.{here_word, text_here}
use Rattle.prim_table.proofs.Operating.{integer}
use Rattle.prim_table.proofs.Packed.{text_byte}
use Rattle.plain_prims.specs.Performing.{printed_by}
use Rattle.plain_prints.specs.Lines.{IntSays, TextSays, bytes_from, text_in}

-- Whether a value is a string, by its map.
by_map : ℕ → Option SlotKind → Sort
by_map m k = cond (nat_eq m 0) sorts.Integer (cond (nat_eq m 1) sorts.Text (cond (nat_eq m 2) sorts.Vector (sort_named k)))

high_map : (m : ℕ) (k : Option SlotKind) → 3 ≤ m → by_map m k ≡ sort_named k
unfolding by_map
high_map m k high =
    cond-false (nat_eq m 0) sorts.Integer _ (ne_eqb m 0 (λ e. omega arith))
    ∙ cond-false (nat_eq m 1) sorts.Text _ (ne_eqb m 1 (λ e. omega arith))
    ∙ cond-false (nat_eq m 2) sorts.Vector _ (ne_eqb m 2 (λ e. omega arith))

named_no : (k : Option SlotKind) → IsText (sort_named k) → ⊥
named_no None t = t
named_no (Some k) t = t

one_map : (m : ℕ) (k : Option SlotKind) → IsText (by_map m k) → m ≡ 1
unfolding by_map
one_map zero k t = absurd t
one_map (suc zero) k t = refl
one_map (suc (suc zero)) k t = absurd t
one_map (suc (suc (suc n))) k t = absurd (named_no k (subst IsText (high_map (suc (suc (suc n))) k (omega arith)) t))

sort_text : (maps : List Slots) (mem : Words) (w : ℕ) → map_at mem w ≡ 1 → sort_at maps mem w ≡ sorts.Text
unfolding by_map
sort_text maps mem w e = ap (λ m. by_map m (slot_named 0 (slots_in maps m))) e

text_map : (maps : List Slots) (mem : Words) (w : ℕ) → sort_at maps mem w ≡ sorts.Text → map_at mem w ≡ 1
unfolding by_map
text_map maps mem w e = one_map (map_at mem w) (slot_named 0 (slots_in maps (map_at mem w))) (subst IsText (sym e) tt)

pub is_text : (maps : List Slots) (mem : Words) (heap : Heap) (w : ℕ) → Operand maps mem heap w → map_at mem w ≡ 1 → TextAt maps mem heap w
is_text maps mem heap w o e = text_at maps mem heap w o (sort_text maps mem w e)

-- the bytes in memory, where each is that of a list
read_as : (mem : Words) (at : ℕ) (bytes : List ℕ) → ((i : ℕ) → i < length bytes → byte_at mem (at + i) ≡ get_or bytes i 0) → bytes_from mem at (length bytes) ≡ bytes
read_as mem at [] each = refl
read_as mem at (b ∷ bs) each =
    let here : at + 0 ≡ at = omega arith in
    let first : byte_at mem at ≡ b = ap (byte_at mem) (sym here) ∙ each 0 (omega arith) in
    let behind : (i : ℕ) → i < length bs → byte_at mem (at + 1 + i) ≡ get_or bs i 0 = λ i lt. (let a : at + 1 + i ≡ at + suc i = omega arith in ap (byte_at mem) a ∙ each (suc i) (omega (arith, lt))) in
    ap (λ z. z ∷ bytes_from mem (at + 1) (length bs)) first ∙ ap (λ z. b ∷ z) (read_as mem (at + 1) bs behind)

module _ (maps : List Slots) (mem : Words) (heap : Heap) (h : Cells) (p : Places) (things : List Thing) (made : List Made) (is : IsHeap maps mem heap h p things made) where
  -- a string's bytes are those that its words say
  text_is : (n w : ℕ) (bytes : List ℕ) → slice_get p.objects n ≡ Some w → slice_get things n ≡ Some (Bytes bytes) → text_in mem w ≡ bytes
  text_is n w bytes at was =
      let here = text_here maps mem heap h p things made is n w bytes at was in
      let size = here.size in
      let count : word_at mem (w + 7) / 4 ≡ length bytes = omega arith in
      ap (bytes_from mem (w + 11)) count ∙ read_as mem (w + 11) bytes (λ i lt. text_byte maps mem heap h p things made is n w bytes at was i lt)

-- The words of a string may be read.
pub record IsRead (mem : Words) (w : ℕ) : Type 0 where
  pub size : HasWord (w + 7)
  pub bytes : (k : ℕ) → k < word_at mem (w + 7) / 4 → HasByte (w + 11 + k)
  pub below : w + 11 + word_at mem (w + 7) / 4 ≤ 0x20000000 + 46137344

pub reads : (maps : List Slots) (mem : Words) (heap : Heap) (w : ℕ) → TextAt maps mem heap w → IsRead mem w
reads maps mem heap w t =
    let here = text_here maps mem heap t.cells t.places t.objects t.made t.is t.number w t.bytes t.at t.was in
    let size = here.size in
    let above = here.above in
    let below = here.below in
    record {
      size = here_word mem w (length t.bytes) ((length t.bytes + 3) / 4) 0 (w + 7) here (omega arith) (omega arith);
      bytes = λ k lt. inr (inl (omega arith, omega arith));
      below = omega arith;
    }

-- what is printed of it
pub text_says : (maps : List Slots) (mem : Words) (w : ℕ) → map_at mem w ≡ 1 → TextSays maps mem w (out_line (text_in mem w))
text_says maps mem w e = λ heap h p things made v is x.
    let f = text_found h p things v w x (subst IsText (sym (sort_text maps mem w e) ∙ sorted maps mem heap h p things made is v w x) tt) in
    ap (λ t. printed_by (string_print t)) (ap (thing_in things) f.is ∙ f.was) ∙ ap out_line (sym (text_is maps mem heap h p things made is f.number w f.bytes f.at f.was))

pub other_says : (maps : List Slots) (mem : Words) (w : ℕ) → map_at mem w ≢ 1 → TextSays maps mem w []
other_says maps mem w ne = λ heap h p things made v is x. ap printed_by (unprinted things v (λ e. ne (text_map maps mem w (sorted maps mem heap h p things made is v w x ∙ e))))

pub integer_says : (w : ℕ) → w % 4 ≡ 0 → IntSays w (out_line (integer_text (int_of w)))
integer_says w aligned = λ maps mem heap h p things made v is x.
    let i = integer h p v w (tagged maps mem heap h p things made is) x aligned in
    ap (λ v. printed_by (int_print v)) i.is ∙ ap (λ z. out_line (integer_text z)) (sym i.reads)

unprinted_integer : (h : Cells) (p : Places) (v : Value) (w : ℕ) → IsValue h p v w → w % 4 ≢ 0 → printed_by (int_print v) ≡ []
unprinted_integer h p (values.Int i) w is none = absurd (none (ap (λ x. x % 4) is.1 ∙ integer_aligned i is.0))
unprinted_integer h p (values.Object n) w is none = refl
unprinted_integer h p (values.Block b k) w is none = refl

pub reference_says : (w : ℕ) → w % 4 ≢ 0 → IntSays w []
reference_says w ne = λ maps mem heap h p things made v is x. unprinted_integer h p v w x ne
