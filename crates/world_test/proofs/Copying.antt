-- Names that are given to the same texts once more.
use Rattle.std.specs.Prelude.{◌≡◌, ℕ, zero, suc, ◌+◌, ◌<◌, ◌≤◌, ◌||◌, nat_eq, Bool, true, false, Some, List, [], ◌∷◌, ◌++◌, if◌then◌else◌, length, take, slice_get, codes, refl}
use Rattle.std.specs.List.{list_any}
use Rattle.std.specs.Cmp.Lexicographic.{pointwise}
use Rattle.std.proofs.Common.{ap, sym, subst, ◌∙◌, arith, inl, inr}
use Rattle.std.proofs.lemmas.Bool.{and_parts, cases_Bool}
use Rattle.self_terms.specs.Names.{HasEachOnce, text_of, with_text}
use Rattle.source_model.proofs.Naming.{same_text}
use Rattle.world_build.proofs.NameLemmas.{length-with_text}
use Rattle.source_model.specs.Names.{is_text}
use Rattle.world_test.specs.Further.{starts_fixed}

any_none : (p : List ℕ → Bool) (xs : List (List ℕ)) → ((j : ℕ) (y : List ℕ) → slice_get xs j ≡ Some y → p y ≡ false) → list_any p xs ≡ false
any_none p [] h = refl
any_none p (x ∷ xs) h = ap (λ b. b || list_any p xs) (h 0 x refl) ∙ any_none p xs (λ j y e. h (suc j) y e)

taken_there : (xs : List (List ℕ)) (n j : ℕ) (y : List ℕ) → slice_get (take n xs) j ≡ Some y → (j < n) × (slice_get xs j ≡ Some y)
taken_there [] zero j y e = absurd (cc)
taken_there [] (suc n) j y e = absurd (cc)
taken_there (x ∷ xs) zero j y e = absurd (cc)
taken_there (x ∷ xs) (suc n) zero y e = (omega arith, e)
taken_there (x ∷ xs) (suc n) (suc j) y e = let h = taken_there xs n j y e in (omega (arith, h.0), h.1)

other : (names : List (List ℕ)) (at j : ℕ) (x y : List ℕ) → HasEachOnce names → slice_get names at ≡ Some x → slice_get names j ≡ Some y → j < at → pointwise nat_eq x y ≡ false
other names at j x y once here there lt = elim (cases_Bool (pointwise nat_eq x y)) [
  | inl e ↦ absurd
      (let same = same_text x y e in
      let n = once (suc at) (suc j) y (subst (λ (z : List ℕ). slice_get names at ≡ Some z) same here) there in
      omega (arith, n, lt))
  | inr e ↦ e
]

fresh : (names : List (List ℕ)) (at : ℕ) (x : List ℕ) → HasEachOnce names → slice_get names at ≡ Some x → list_any (pointwise nat_eq x) (take at names) ≡ false
fresh names at x once here = any_none (pointwise nat_eq x) (take at names) (λ j y e. let h = taken_there names at j y e in other names at j x y once here h.1 h.0)

took : (xs : List (List ℕ)) (at : ℕ) (x : List ℕ) → slice_get xs at ≡ Some x → take at xs ++ x ∷ [] ≡ take (suc at) xs
took [] at x e = absurd (cc)
took (y ∷ xs) zero x e = cc
took (y ∷ xs) (suc at) x e = ap (λ zs. y ∷ zs) (took xs at x e)

pub given : (names copy new : List (List ℕ)) (at n : ℕ) (x : List ℕ) → HasEachOnce names → n ≡ suc at → text_of names n ≡ Some x
    → (starts_fixed names ≡ true → copy ≡ take at names) → new ≡ with_text copy x → starts_fixed names ≡ true → new ≡ take (at + 1) names
given names copy new at n x once same named so e fixed =
    let here : slice_get names at ≡ Some x = (let P : ℕ → Type 0 = λ k. text_of names k ≡ Some x in subst P same named) in
    let more : suc at ≡ at + 1 = omega arith in
    e
    ∙ ap (λ ns. with_text ns x) (so fixed)
    ∙ ap (λ (b : Bool). if b then take at names else take at names ++ x ∷ []) (fresh names at x once here)
    ∙ took names at x here
    ∙ ap (λ k. take k names) more

pub first_two : (names : List (List ℕ)) → starts_fixed names ≡ true → codes "_IntAdd:" ∷ codes "_IntSub:" ∷ [] ≡ take 2 names
first_two [] e = absurd (cc)
first_two (x ∷ []) e = absurd (let bad = (and_parts (is_text x (codes "_IntAdd:")) false e).1 in cc)
first_two (x ∷ y ∷ rest) e =
    let h = and_parts (is_text x (codes "_IntAdd:")) (is_text y (codes "_IntSub:")) e in
    let a = same_text x (codes "_IntAdd:") h.0 in
    let b = same_text y (codes "_IntSub:") h.1 in
    λ i. sym a i ∷ sym b i ∷ []

pub few_more : (names new : List (List ℕ)) (x : List ℕ) → new ≡ with_text names x → length new ≤ length names + 1
few_more names new x e = subst (λ (ns : List (List ℕ)). length ns ≤ length names + 1) (sym e) (length-with_text names x)
