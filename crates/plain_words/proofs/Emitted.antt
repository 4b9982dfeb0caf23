-- Instructions that are put one after the other stand one after the other.
use Rattle.std.proofs.Common.{◌≡◌, ℕ, zero, suc, ◌+◌, ◌*◌, ◌<◌, ◌≤◌, refl, ◌∙◌, ap, sym, subst, arith, inl, inr}
use Rattle.std.specs.Prelude.{◌⊎◌, Some, List, [], ◌∷◌, ◌++◌, length, slice_get}
use Rattle.std.specs.Prelude.{get_or}
use Rattle.std.proofs.lemmas.Bool.{cases_lt}
use Rattle.sparc_insn.specs.declared.insn.Insn.{Insn}
use Rattle.sparc_insn.specs.Instructions.{instruction}
use Rattle.sparc_insn.specs.Words.{IsInsn, word_of}
use Rattle.sparc_insn.proofs.RoundTrip.{decodes}
use Rattle.sparc_store.specs.Words.{Words, word_at, Stored}
use Rattle.plain_words.specs.Going.{At}
use Rattle.plain_words.specs.Putting.{Apart}

-- the first n of these instructions stand from an address on
pub record EachAt (memory : Words) (at n : ℕ) (code : List Insn) : Type 0 where
  pub each : (j : ℕ) → j < n → instruction (word_at memory (at + 4 * j)) ≡ slice_get code j

pub each_none : (memory : Words) (at : ℕ) (code : List Insn) → EachAt memory at 0 code
each_none memory at code = record { each = λ j lt. absurd (omega arith) }

pub apart_none : (memory : Words) (at : ℕ) → Apart memory memory at 0
apart_none memory at = record { others = λ b out. refl }

pub each_more : (old new : Words) (at j : ℕ) (code : List Insn) (i : Insn) → EachAt old at j code → Stored old new (at + 4 * j) (word_of i) → slice_get code j ≡ Some i → IsInsn i → EachAt new at (j + 1) code
each_more old new at j code i h s e is = record {
  each = λ k lt. elim (cases_lt k j) [
    | inl below ↦ ap instruction (s.others (at + 4 * k) (omega arith)) ∙ h.each k below
    | inr above ↦
        let same : k ≡ j = omega arith in
        let here : instruction (word_at new (at + 4 * j)) ≡ slice_get code j = ap instruction s.put ∙ decodes i is ∙ sym e in
        (let P : ℕ → Type 0 = λ z. instruction (word_at new (at + 4 * z)) ≡ slice_get code z in subst P (sym same) here)
  ];
}

pub apart_more : (a b c : Words) (at j w : ℕ) → Apart a b at j → Stored b c (at + 4 * j) w → Apart a c at (j + 1)
apart_more a b c at j w h s = record {
  others = λ x out. elim out [
    | inl below ↦ s.others x (omega arith) ∙ h.others x (inl below)
    | inr above ↦ s.others x (omega arith) ∙ h.others x (inr (omega arith))
  ];
}

at_from : (code : List Insn) (memory : Words) (at : ℕ) → ((j : ℕ) → j < length code → instruction (word_at memory (at + 4 * j)) ≡ slice_get code j) → At memory at code
at_from [] memory at h = tt
at_from (i ∷ is) memory at h = (
  ap (λ a. instruction (word_at memory a)) (omega arith) ∙ h 0 (omega arith),
  at_from is memory (at + 4) (λ j lt. ap (λ a. instruction (word_at memory a)) (omega arith) ∙ h (suc j) (omega arith)),
)

pub at_each : (code : List Insn) (memory : Words) (at n : ℕ) → n ≡ length code → EachAt memory at n code → At memory at code
at_each code memory at n e h = at_from code memory at (λ j lt. h.each j (omega arith))

-- words elsewhere don't matter
pub at_apart : (code : List Insn) (old new : Words) (p at n : ℕ) → Apart old new at n → (p + 4 * length code ≤ at) ⊎ (at + 4 * n ≤ p) → At old p code → At new p code
at_apart [] old new p at n a out h = tt
at_apart (i ∷ is) old new p at n a out h = elim out [
  | inl below ↦ (ap instruction (a.others p (inl (omega arith))) ∙ h.0, at_apart is old new (p + 4) at n a (inl (omega arith)) h.1)
  | inr above ↦ (ap instruction (a.others p (inr (omega arith))) ∙ h.0, at_apart is old new (p + 4) at n a (inr (omega arith)) h.1)
]

-- two stretches, one behind the other
pub at_both : (memory : Words) (p : ℕ) (front rest : List Insn) → At memory p front → At memory (p + 4 * length front) rest → At memory p (front ++ rest)
at_both memory p [] rest h k = let P : ℕ → Type 0 = λ a. At memory a rest in let e : p + 4 * 0 ≡ p = omega arith in subst P e k
at_both memory p (i ∷ is) rest h k =
    (h.0, at_both memory (p + 4) is rest h.1 (let P : ℕ → Type 0 = λ a. At memory a rest in let e : p + 4 * suc (length is) ≡ p + 4 + 4 * length is = omega arith in subst P e k))

pub apart_both : (a b c : Words) (p m n : ℕ) → Apart a b p m → Apart b c (p + 4 * m) n → Apart a c p (m + n)
apart_both a b c p m n h k = record {
  others = λ x out. elim out [
    | inl below ↦ k.others x (inl (omega arith)) ∙ h.others x (inl below)
    | inr above ↦ k.others x (inr (omega arith)) ∙ h.others x (inr (omega arith))
  ];
}

pub slice_get_is : (xs : List Insn) (j : ℕ) (d : Insn) → j < length xs → slice_get xs j ≡ Some (get_or xs j d)
slice_get_is [] j d lt = absurd (omega arith)
slice_get_is (x ∷ xs) zero d lt = refl
slice_get_is (x ∷ xs) (suc j) d lt = slice_get_is xs j d (omega arith)
