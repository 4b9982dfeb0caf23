-- Texts that have names, and their numbers.
use Rattle.std.specs.Prelude.{◌≡◌, ℕ, suc, ◌+◌, nat_eq, Bool, true, false, ◌||◌, if◌then◌else◌, Some, List, [], ◌∷◌, ◌++◌, slice_get, refl}
use Rattle.std.specs.List.{list_any, position_or_len}
use Rattle.std.specs.Cmp.Lexicographic.{pointwise, same_text}
use Rattle.std.proofs.Common.{ap, sym, ◌∙◌, inl, inr, arith}
use Rattle.std.proofs.lemmas.Bool.{cases_Bool}
use Rattle.std.proofs.lemmas.Cmp.{nat_list_eq_equiv}
use Rattle.std.proofs.lemmas.List.Folds.{list_any-append}
use Rattle.self_terms.specs.Names.{text_of as text_at, with_text}
use Rattle.source_model.specs.Names.{number_from}
use Rattle.source_model.specs.Names as source
use Rattle.world_build.proofs.Orders.{Spelt}

abbrev pub IsIn : List (List ℕ) → List ℕ → Type 0
IsIn names t = list_any (pointwise nat_eq t) names ≡ true

or_true : (a b : Bool) → a ≡ true → (a || b) ≡ true
or_true true b e = refl
or_true false b e = cc

or_last : (a b : Bool) → b ≡ true → (a || b) ≡ true
or_last true b e = refl
or_last false b e = e

pub in_more : (names more : List (List ℕ)) (t : List ℕ) → IsIn names t → IsIn (names ++ more) t
in_more names more t h = list_any-append (pointwise nat_eq t) names more ∙ or_true _ _ h

pub in_with : (names : List (List ℕ)) (u t : List ℕ) → IsIn names t → IsIn (with_text names u) t
in_with names u t h = by (list_any (pointwise nat_eq u) names)
  where
    by : (b : Bool) → IsIn (if b then names else names ++ u ∷ []) t
    by true = h
    by false = in_more names (u ∷ []) t h

pub own_in : (names : List (List ℕ)) (t : List ℕ) → IsIn (with_text names t) t
own_in names t = by (list_any (pointwise nat_eq t) names) refl
  where
    none : (b : Bool) → b ≡ true → (b || false) ≡ true
    none true e = refl
    none false e = e

    by : (b : Bool) → list_any (pointwise nat_eq t) names ≡ b → IsIn (if b then names else names ++ t ∷ []) t
    by true e = e
    by false e = list_any-append (pointwise nat_eq t) names (t ∷ []) ∙ or_last _ _ (none _ (nat_list_eq_equiv.refl t))

-- The number of a text that is there.

pub record Found (k : ℕ) (t : List ℕ) (names : List (List ℕ)) : Type 0 where
  pub number : number_from k t names ≡ k + position_or_len (pointwise nat_eq t) names
  pub there : slice_get names (position_or_len (pointwise nat_eq t) names) ≡ Some t

pub found : (k : ℕ) (t : List ℕ) (names : List (List ℕ)) → IsIn names t → Found k t names
found k t [] h = cc
found k t (x ∷ names) h = elim (cases_Bool (pointwise nat_eq t x)) [
  | inl e ↦ record { number = rw e (omega arith); there = rw e (ap Some (sym (same_text t x (sym e)))) }
  | inr e ↦
      let r = found (k + 1) t names (rw e at h) in
      let up : 1 + position_or_len (pointwise nat_eq t) names ≡ suc (position_or_len (pointwise nat_eq t) names) = omega arith in
      record {
        number = (let n : number_from (k + 1) t names ≡ k + 1 + position_or_len (pointwise nat_eq t) names = r.number in rw e (omega arith));
        there = rw e (ap (λ i. slice_get (x ∷ names) i) up ∙ r.there);
      }
]

pub spelt : (names : List (List ℕ)) (t : List ℕ) → IsIn names t → Spelt names (source.number_of names t) t
spelt names t h =
    let r = found 1 t names h in
    let up : 1 + position_or_len (pointwise nat_eq t) names ≡ suc (position_or_len (pointwise nat_eq t) names) = omega arith in
    record { number = refl; given = ap (λ n. text_at names n) (r.number ∙ up) ∙ r.there }
