-- Strings that are put one after the other, and then a word that is stored, leave memory as an edit does.
use Rattle.std.proofs.Common.{◌≡◌, ◌⊎◌, inl, inr, sym, ap, ◌∙◌, ℕ, zero, suc, ◌+◌, ◌*◌, ◌/◌, ◌<◌, ◌≤◌, List, [], ◌∷◌, length, arith}
use Rattle.sparc_store.specs.Words.{Words, word_at}
use Rattle.source_model.specs.Canon.{Each}
use Rattle.heap_cells.specs.Shapes.{Text, words_of}
use Rattle.heap_cells.specs.Laying.{Holds}
use Rattle.heap_cells.specs.Standing.{AreBytes}
use Rattle.heap_cells.specs.Cloning.{IsWritten}
use Rattle.heap_cells.proofs.Layering.{holds_on}
use Rattle.heap_cells.proofs.Told.{packed_in_length, packed_word}
use Rattle.plain_edits.specs.Heaps.{text_words, texts_words, AreTexts, AreWritten, EditsAreWritten}

string_words : (mem new : Words) (top number : ℕ) (bytes : List ℕ) → IsWritten mem new top number bytes → Holds new top (words_of (Text number bytes))
string_words mem new top number bytes f zero lt = ap (word_at new) (let e : top + 4 * 0 ≡ top = omega arith in e) ∙ f.map
string_words mem new top number bytes f (suc zero) lt = f.numbered
string_words mem new top number bytes f (suc (suc zero)) lt = f.size
string_words mem new top number bytes f (suc (suc (suc k))) lt =
    let below : k < (length bytes + 3) / 4 = omega (arith, packed_in_length ((length bytes + 3) / 4) bytes) in
    ap (word_at new) (let e : top + 4 * suc (suc (suc k)) ≡ top + 12 + 4 * k = omega arith in e) ∙ f.put k below ∙ sym (packed_word ((length bytes + 3) / 4) bytes k below)

-- words below and above are as they were
apart : (strings : List (List ℕ)) (old new : Words) (at number : ℕ) → AreWritten old new at number strings → (b : ℕ) → (b < at) ⊎ (at + 4 * texts_words strings ≤ b) → word_at new b ≡ word_at old b
apart [] old new at number w b out = ap (λ (m : Words). word_at m b) w
apart (x ∷ xs) old new at number w b out =
    let rest = apart xs w.0 new (at + 4 * text_words x) (number + 1) w.1.1 b in
    elim out [
      | inl low ↦ rest (inl (omega (arith, low))) ∙ w.1.0.others b low
      | inr high ↦ rest (inr (omega (arith, high))) ∙ w.1.0.above b (omega (arith, high))
    ]

-- they stand there
texts_on : (strings : List (List ℕ)) (old new : Words) (at number : ℕ) → ((b : ℕ) → at ≤ b → word_at new b ≡ word_at old b) → AreTexts old at number strings → AreTexts new at number strings
texts_on [] old new at number same texts = tt
texts_on (x ∷ xs) old new at number same texts = (
  holds_on old new at (words_of (Text number x)) texts.0 (λ k lt. same (at + 4 * k) (omega arith)),
  texts_on xs old new (at + 4 * text_words x) (number + 1) (λ b le. same b (omega (arith, le))) texts.1,
)

texts_written : (strings : List (List ℕ)) (old new : Words) (at number : ℕ) → AreWritten old new at number strings → AreTexts new at number strings × Each AreBytes strings
texts_written [] old new at number w = (tt, tt)
texts_written (x ∷ xs) old new at number w =
    let rest = texts_written xs w.0 new (at + 4 * text_words x) (number + 1) w.1.1 in
    let n = packed_in_length ((length x + 3) / 4) x in (
      (
        holds_on w.0 new at (words_of (Text number x)) (string_words old w.0 at number x w.1.0) (λ k lt. apart xs w.0 new (at + 4 * text_words x) (number + 1) w.1.1 (at + 4 * k) (inl (omega (arith, lt, n)))),
        rest.0,
      ),
      (w.1.0.small, rest.1),
    )

pub edits_are_written : EditsAreWritten
edits_are_written old mid new heap word map strings w stored within low room =
    let t = texts_written strings old mid heap.top heap.next w in (
      record {
        within = within;
        mapped = stored.put;
        texts = texts_on strings mid new heap.top heap.next (λ b le. stored.others b (λ e. omega (arith, e, le, low))) t.0;
        room = room;
        others = λ b ne out. stored.others b ne ∙ apart strings old mid heap.top heap.next w b out;
      },
      t.1,
    )
