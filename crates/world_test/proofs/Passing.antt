-- Tests of every element of a list, and of every number below one, as far as they have come.
use Rattle.std.specs.Prelude.{◌≡◌, ℕ, zero, suc, ◌+◌, ◌<◌, ◌≤◌, ◌&&◌, Bool, true, false, Some, List, [], ◌∷◌, length, drop, slice_get, refl}
use Rattle.std.proofs.Common.{ap, sym, subst, ◌∙◌, arith, get_or, inl, inr}
use Rattle.std.proofs.lemmas.Bool.{cases_eq}
use Rattle.world_build.proofs.Fronts.{drop_there}
use Rattle.source_model.specs.Testing.{each_passes, below_pass}

pub past : {A : Type 0} (xs : List A) (i : ℕ) → length xs ≤ i → drop i xs ≡ []
past [] zero h = refl
past [] (suc i) h = refl
past (x ∷ xs) zero h = absurd (omega arith)
past (x ∷ xs) (suc i) h = past xs i (omega arith)

pub read : {A : Type 0} (xs : List A) (i : ℕ) (x : A) → i < length xs → x ≡ get_or xs i x → slice_get xs i ≡ Some x
read [] i x h e = absurd (omega arith)
read (y ∷ xs) zero x h e = ap Some (sym e)
read (y ∷ xs) (suc i) x h e = read xs i x (omega arith) e

both : (a b : Bool) → a ≡ true → (a && b) ≡ b
both a b e = ap (λ c. c && b) e

neither : (a b : Bool) → a ≡ false → (a && b) ≡ false
neither a b e = ap (λ c. c && b) e

pub ends : (a b : Bool) → b ≡ false → (a && b) ≡ false
ends true b e = e
ends false b e = refl

module _ {A : Type 0} (p : A → Bool) where
  pub each_goes : (xs : List A) (i : ℕ) (x : A) → slice_get xs i ≡ Some x → p x ≡ true → each_passes p (drop (i + 1) xs) ≡ each_passes p (drop i xs)
  each_goes xs i x at e = sym (ap (each_passes p) (drop_there xs i x at) ∙ both (p x) (each_passes p (drop (i + 1) xs)) e)

  pub each_fails : (xs : List A) (i : ℕ) (x : A) → slice_get xs i ≡ Some x → p x ≡ false → each_passes p (drop i xs) ≡ false
  each_fails xs i x at e = ap (each_passes p) (drop_there xs i x at) ∙ neither (p x) (each_passes p (drop (i + 1) xs)) e

  pub each_ends : (xs : List A) (i : ℕ) → length xs ≤ i → each_passes p (drop i xs) ≡ true
  each_ends xs i h = ap (each_passes p) (past xs i h)

module _ (p : ℕ → Bool) where
  pub below_goes : (k : ℕ) → p k ≡ true → below_pass k p ≡ true → below_pass (k + 1) p ≡ true
  below_goes k e h = ap (λ n. below_pass n p) (let s : k + 1 ≡ suc k = omega arith in s) ∙ both (p k) (below_pass k p) e ∙ h

  pub below_fails : (n k : ℕ) → k < n → p k ≡ false → below_pass n p ≡ false
  below_fails zero k h e = absurd (omega arith)
  below_fails (suc n) k h e = elim (cases_eq k n) [
    | inl same ↦ neither (p n) (below_pass n p) (subst (λ (m : ℕ). p m ≡ false) same e)
    | inr other ↦ ends (p n) (below_pass n p) (below_fails n k (omega arith) e)
  ]
