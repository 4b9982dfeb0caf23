-- The bytes of a string, as they stand in its words.
use Rattle.std.proofs.Common.{◌≡◌, inl, inr, refl, sym, ap, subst, ◌∙◌, ℕ, zero, suc, ◌+◌, ◌-◌, ◌*◌, ◌/◌, ◌%◌, ◌<◌, List, [], ◌∷◌, length, drop, get_or, w32, arith}
use Rattle.std.specs.Prelude.{Some, slice_get}
use Rattle.std.specs.Int.{from_be_bytes, to_be_bytes}
use Rattle.std.proofs.lemmas.Nat.{be_bytes_4}
use Rattle.std.proofs.lemmas.Bool.{cases_lt}
use Rattle.std.proofs.lemmas.List.{get_or-drop, get_or_past}
use Rattle.std.proofs.lemmas.Option.{slice_get-get_or}
use Rattle.source_model.specs.declared.objects.Thing.{Thing}
use Rattle.source_model.specs.declared.objects.Thing.TheVariants.{Text as Bytes}
use Rattle.object_maps.specs.declared.layout.Heap.{Heap}
use Rattle.object_maps.specs.Slots.{Slots}
use Rattle.sparc_store.specs.Words.{Words, word_at, byte_at}
use Rattle.heap_cells.specs.Shapes.{Text, first_word, packed, packed_in}
use Rattle.heap_cells.specs.Laying.{Cells}
use Rattle.heap_cells.specs.Source.{Made}
use Rattle.heap_cells.specs.Standing.{Places, AreBytes}
use Rattle.heap_cells.specs.Heaps.{IsHeap}
use Rattle.heap_cells.proofs.Stepping.{cell_word}
use Rattle.prim_table.proofs.Indexing.{text_words, packed_length}

byte_small : (bytes : List ℕ) → AreBytes bytes → (k : ℕ) → get_or bytes k 0 < 256
byte_small bytes are k = elim (cases_lt k (length bytes)) [
  | inl lt ↦ are k (get_or bytes k 0) (slice_get-get_or bytes k 0 lt)
  | inr ge ↦ subst (λ (z : ℕ). z < 256) (sym (get_or_past bytes k 0 ge)) (omega arith)
]

-- the word at a place is that of four bytes
packed_word : (n : ℕ) (bytes : List ℕ) (k : ℕ) → k < n → get_or (packed_in n bytes) k 0 ≡ first_word (drop (4 * k) bytes)
packed_word zero bytes k lt = absurd (omega arith)
packed_word (suc n) bytes zero lt = refl
packed_word (suc n) bytes (suc k) lt = packed_word n (drop 4 bytes) k (omega arith) ∙ same_word (drop (4 * k) (drop 4 bytes)) (drop (4 * suc k) bytes) (λ i.
    get_or-drop (4 * k) (drop 4 bytes) i 0 ∙ get_or-drop 4 bytes (4 * k + i) 0 ∙ ap (λ z. get_or bytes z 0) (let e : 4 + (4 * k + i) ≡ 4 * suc k + i = omega arith in e) ∙ sym (get_or-drop (4 * suc k) bytes i 0))
  where
    same_word : (xs ys : List ℕ) → ((i : ℕ) → get_or xs i 0 ≡ get_or ys i 0) → first_word xs ≡ first_word ys
    same_word xs ys e = λ j. from_be_bytes w32 (e 0 j ∷ e 1 j ∷ e 2 j ∷ e 3 j ∷ [])

quad : List ℕ → List ℕ
quad xs = get_or xs 0 0 ∷ get_or xs 1 0 ∷ get_or xs 2 0 ∷ get_or xs 3 0 ∷ []

quad_small : (xs : List ℕ) → ((k : ℕ) → get_or xs k 0 < 256) → (i : ℕ) → get_or (quad xs) i 0 < 256
unfolding quad
quad_small xs small zero = small 0
quad_small xs small (suc zero) = small 1
quad_small xs small (suc (suc zero)) = small 2
quad_small xs small (suc (suc (suc zero))) = small 3
quad_small xs small (suc (suc (suc (suc i)))) = omega arith

quad_at : (xs : List ℕ) (r : ℕ) → r < 4 → get_or (quad xs) r 0 ≡ get_or xs r 0
unfolding quad
quad_at xs zero lt = refl
quad_at xs (suc zero) lt = refl
quad_at xs (suc (suc zero)) lt = refl
quad_at xs (suc (suc (suc zero))) lt = refl
quad_at xs (suc (suc (suc (suc r)))) lt = absurd (omega arith)

quad_bytes : (xs : List ℕ) → ((k : ℕ) → get_or xs k 0 < 256) → to_be_bytes w32 (first_word xs) ≡ quad xs
unfolding quad
quad_bytes xs small = be_bytes_4 (quad xs) (first_word xs) refl (quad_small xs small) refl

module _ (maps : List Slots) (mem : Words) (heap : Heap) (h : Cells) (p : Places) (objects : List Thing) (made : List Made) (is : IsHeap maps mem heap h p objects made) where
  pub text_byte : (n w : ℕ) (bytes : List ℕ) → slice_get p.objects n ≡ Some w → slice_get objects n ≡ Some (Bytes bytes) → (i : ℕ) → i < length bytes → byte_at mem (w + 11 + i) ≡ get_or bytes i 0
  unfolding byte_at
  text_byte n w bytes at was i lt =
      let t = text_words maps mem heap h p objects made is n w bytes at was in
      let there = t.0 in
      let tagged = there.0 in
      let count : length (packed bytes) ≡ (length bytes + 3) / 4 = packed_length ((length bytes + 3) / 4) bytes in
      let aligned : w + 11 + i - (w + 11 + i) % 4 ≡ w + 11 + 4 * (i / 4) = omega arith in
      let rest : (w + 11 + i) % 4 ≡ i % 4 = omega arith in
      let small : (k : ℕ) → get_or (drop (4 * (i / 4)) bytes) k 0 < 256 = λ k. subst (λ (z : ℕ). z < 256) (sym (get_or-drop (4 * (i / 4)) bytes k 0)) (byte_small bytes t.1 (4 * (i / 4) + k)) in
      let word : word_at mem (w + 11 + 4 * (i / 4)) ≡ first_word (drop (4 * (i / 4)) bytes) =
      cell_word mem heap.top w (suc (suc (suc (i / 4)))) (w + 11 + 4 * (i / 4)) h (Text n bytes) is.laid there (omega arith) (omega arith)
      ∙ packed_word ((length bytes + 3) / 4) bytes (i / 4) (omega arith) in
      (λ j. get_or (to_be_bytes w32 (word_at mem (aligned j))) (rest j) 0)
      ∙ ap (λ z. get_or (to_be_bytes w32 z) (i % 4) 0) word
      ∙ ap (λ (z : List ℕ). get_or z (i % 4) 0) (quad_bytes (drop (4 * (i / 4)) bytes) small)
      ∙ quad_at (drop (4 * (i / 4)) bytes) (i % 4) (omega arith)
      ∙ get_or-drop (4 * (i / 4)) bytes (i % 4) 0
      ∙ ap (λ z. get_or bytes z 0) (let e : 4 * (i / 4) + i % 4 ≡ i = omega arith in e)
