-- No text that has a name has the number 0.
use Rattle.std.specs.Prelude.{◌≡◌, ◌≢◌, ℕ, zero, suc, ◌+◌, ◌<◌, true, false, nat_eq, List, [], ◌∷◌, ◌++◌}
use Rattle.std.specs.List.{list_any}
use Rattle.std.specs.Cmp.Lexicographic.{pointwise}
use Rattle.std.proofs.Common.{inl, inr, arith}
use Rattle.std.proofs.lemmas.Bool.{cases_Bool, false≢true}
use Rattle.std.proofs.lemmas.Cmp.{nat_list_eq_equiv}
use Rattle.self_terms.specs.Names.{with_text}
use Rattle.self_grammar.specs.declared.pieces.Words.{Words}
use Rattle.self_grammar.specs.Parts.{parts_in}
use Rattle.source_model.specs.Names.{number_from}
use Rattle.world_build.specs.Names.{joined, with_words, word_number}

there : (k : ℕ) (t : List ℕ) (xs : List (List ℕ)) → list_any (pointwise nat_eq t) xs ≡ true → number_from (k + 1) t xs ≢ 0
there k t [] e = absurd (false≢true e)
there k t (x ∷ xs) e = elim (cases_Bool (pointwise nat_eq t x)) [
  | inl h ↦ rw h (λ f. omega arith)
  | inr h ↦ rw h (there (k + 1) t xs (rw h at e))
]

behind : (k : ℕ) (t : List ℕ) (xs : List (List ℕ)) → number_from (k + 1) t (xs ++ t ∷ []) ≢ 0
behind k t [] = rw (nat_list_eq_equiv.refl t) (λ f. omega arith)
behind k t (x ∷ xs) = elim (cases_Bool (pointwise nat_eq t x)) [
  | inl h ↦ rw h (λ f. omega arith)
  | inr h ↦ rw h (behind (k + 1) t xs)
]

given : (names : List (List ℕ)) (t : List ℕ) → number_from 1 t (with_text names t) ≢ 0
given names t = elim (cases_Bool (list_any (pointwise nat_eq t) names)) [
  | inl h ↦ rw h (there 0 t names h)
  | inr h ↦ rw h (behind 0 t names)
]

pub word_given : (names : List (List ℕ)) (w : Words) → word_number names w ≢ 0
word_given names w = given names (joined names (parts_in w))
