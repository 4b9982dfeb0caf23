-- Elements of a list by their numbers, and what is behind them.
use Rattle.std.specs.Prelude.{◌≡◌, ℕ, zero, suc, ◌+◌, ◌-◌, ◌<◌, ◌≤◌, None, Some, List, [], ◌∷◌, ◌++◌, length, take, drop, slice_get, refl}
use Rattle.std.proofs.Common.{ap, arith, add-one}

pub is_there : {X : Type 0} (xs : List X) (at : ℕ) → at < length xs → slice_get xs at ≡ None → ⊥
is_there [] at h e = absurd (omega arith)
is_there (x ∷ xs) zero h e = cc
is_there (x ∷ xs) (suc at) h e = is_there xs at (omega arith) e

next_drop : {X : Type 0} (xs : List X) (at : ℕ) (x : X) → slice_get xs at ≡ Some x → drop at xs ≡ x ∷ drop (suc at) xs
next_drop [] at x e = cc
next_drop (y ∷ xs) zero x e = cc
next_drop (y ∷ xs) (suc at) x e = next_drop xs at x e

pub at_drop : {X : Type 0} (xs : List X) (at : ℕ) (x : X) → slice_get xs at ≡ Some x → drop at xs ≡ x ∷ drop (at + 1) xs
at_drop xs at x e = rw add-one (next_drop xs at x e)

next_take : {X : Type 0} (xs : List X) (at : ℕ) (x : X) → slice_get xs at ≡ Some x → take (suc at) xs ≡ take at xs ++ x ∷ []
next_take [] at x e = cc
next_take (y ∷ xs) zero x e = cc
next_take (y ∷ xs) (suc at) x e = ap (λ zs. y ∷ zs) (next_take xs at x e)

pub at_take : {X : Type 0} (xs : List X) (at : ℕ) (x : X) → slice_get xs at ≡ Some x → take (at + 1) xs ≡ take at xs ++ x ∷ []
at_take xs at x e = rw add-one (next_take xs at x e)

pub past : {X : Type 0} (xs : List X) (at : ℕ) → length xs ≤ at → drop at xs ≡ []
past [] zero h = refl
past [] (suc at) h = refl
past (x ∷ xs) zero h = absurd (omega arith)
past (x ∷ xs) (suc at) h = past xs at (omega arith)

drop_length : {X : Type 0} (xs : List X) (k : ℕ) → length (drop k xs) ≤ length xs - k
drop_length [] zero = omega arith
drop_length [] (suc k) = omega arith
drop_length (x ∷ xs) zero = omega arith
drop_length (x ∷ xs) (suc k) = omega (arith, drop_length xs k)

pub take_all : {X : Type 0} (xs : List X) (k : ℕ) → length xs ≤ k → take k xs ≡ xs
take_all [] zero h = refl
take_all [] (suc k) h = refl
take_all (x ∷ xs) zero h = absurd (omega arith)
take_all (x ∷ xs) (suc k) h = ap (λ zs. x ∷ zs) (take_all xs k (omega arith))

-- what is behind a place, up to the end
pub take_rest : {X : Type 0} (xs : List X) (k : ℕ) → take (length xs - k) (drop k xs) ≡ drop k xs
take_rest xs k = take_all (drop k xs) (length xs - k) (drop_length xs k)
