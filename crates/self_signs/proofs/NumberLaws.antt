-- Numbers of texts among names.
use Rattle.std.proofs.Common.{◌≡◌, ◌<◌, ℕ, zero, suc, List, [], ◌∷◌, ◌++◌, inl, inr, refl, sym, ap, arith}
use Rattle.std.specs.Prelude.{Option, Some, None, nat_eq, slice_get}
use Rattle.std.specs.List.{position_or_len}
use Rattle.std.specs.Cmp.Lexicographic.{pointwise, same_text}
use Rattle.std.proofs.lemmas.Bool.{cases_Bool}
use Rattle.std.proofs.lemmas.Cmp.{nat_list_eq_equiv}
use Rattle.self_terms.specs.Names.{text_of, HasEachOnce}
use Rattle.self_signs.specs.Signs.{number_of}

none_some : (t : List ℕ) → ◌≡◌ {A = Option (List ℕ)} None (Some t) → ⊥
none_some t e = cc

some_inj : (s t : List ℕ) → ◌≡◌ {A = Option (List ℕ)} (Some s) (Some t) → s ≡ t
some_inj s t e = cc

-- The place where a text stands, and not before, is the first one.
first_at : (names more : List (List ℕ)) (k : ℕ) (text : List ℕ) → slice_get names k ≡ Some text → ((j : ℕ) → j < k → slice_get names j ≡ Some text → ⊥) →
    position_or_len (pointwise nat_eq text) (names ++ more) ≡ k
first_at [] more k text e before = absurd (none_some text e)
first_at (x ∷ names) more zero text e before = let same = nat_list_eq_equiv.refl text in rw (some_inj x text e, same) refl
first_at (x ∷ names) more (suc k) text e before =
    elim (cases_Bool (pointwise nat_eq text x)) [
      | inl same ↦ absurd (before 0 (omega arith) (ap Some (sym (same_text text x (sym same)))))
      | inr other ↦
          let rest = first_at names more k text e (λ j lt there. before (suc j) (omega arith) there) in
          rw (other, rest) (omega arith)
    ]

-- What has a number has it as long as names only come behind.
pub number_found : (names more : List (List ℕ)) (n : ℕ) (text : List ℕ) → HasEachOnce names → text_of names n ≡ Some text → n ≡ number_of (names ++ more) text
number_found names more zero text once e = absurd (none_some text e)
number_found names more (suc k) text once e =
    let at = first_at names more k text e (λ j lt there. let same = once (suc j) (suc k) text there e in absurd (omega arith)) in
    omega arith
