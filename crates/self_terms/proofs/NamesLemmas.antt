-- Lists of texts as the lists that they are seen as.
use Rattle.std.proofs.Common.{◌≡◌, ℕ, zero, suc, ◌+◌, Bool, false, List, [], ◌∷◌, ◌++◌, ◌<◌, ◌≤◌, ◌-◌, inl, inr, refl, sym, ap, ◌∙◌, map, length, get_or, arith, add-one}
use Rattle.std.specs.Prelude.{nat_eq, Option, Some, None, slice_get, if◌then◌else◌}
use Rattle.std.specs.List.{list_any, IsDistinct, AllByRecursion}
use Rattle.std.specs.Cmp.Lexicographic.{pointwise}
use Rattle.std.proofs.lemmas.Option.{slice_get-map, slice_get_read}
use Rattle.std.proofs.lemmas.Bool.{cases_Bool, true≢false}
use Rattle.std.proofs.lemmas.Cmp.{nat_list_eq_equiv}
use Rattle.self_terms.specs.Names.{text_of, with_text, HasEachOnce}

module _ {V : Type 0} (items : V → List ℕ) where
  pub text_there : (keys : List V) (at : ℕ) (k : V) (text : List ℕ) → slice_get keys at ≡ Some k → items k ≡ text → text_of (map items keys) (at + 1) ≡ Some text
  text_there keys at k text e f = rw (add-one, slice_get-map items keys at, e, f) refl

  any_map : (p : List ℕ → Bool) (keys : List V) → list_any (λ v. p (items v)) keys ≡ list_any p (map items keys)
  any_map p [] = refl
  any_map p (k ∷ keys) = rw (any_map p keys) refl

  map_append : (keys : List V) (k : V) → map items (keys ++ k ∷ []) ≡ map items keys ++ items k ∷ []
  map_append [] k = refl
  map_append (x ∷ keys) k = ap (λ z. items x ∷ z) (map_append keys k)

  pub with_there : (keys keys' : List V) (k : V) (text : List ℕ) → items k ≡ text
      → keys' ≡ (if list_any (λ v. pointwise nat_eq (items k) (items v)) keys then keys else keys ++ k ∷ [])
      → map items keys' ≡ with_text (map items keys) text
  with_there keys keys' k text e f = elim (cases_Bool (list_any (λ v. pointwise nat_eq (items k) (items v)) keys)) [
    | inl t ↦ rw (f, ← e, ← any_map (pointwise nat_eq (items k)) keys, t) refl
    | inr t ↦ rw (f, ← e, ← any_map (pointwise nat_eq (items k)) keys, t) (map_append keys k)
  ]

  pub text_at : (keys : List V) (n : ℕ) (k : V) (text : List ℕ) → 0 < n → n ≤ length keys → k ≡ get_or keys (n - 1) k → items k ≡ text → text_of (map items keys) n ≡ Some text
  text_at keys zero k text h l e f = absurd (omega arith)
  text_at keys (suc n) k text h l e f =
      let m : suc n - 1 ≡ n = omega arith in
      rw (slice_get-map items keys n, slice_get_read keys (length keys) n k refl (omega arith) (rw m at e), f) refl

  none_some : (t : List ℕ) → ◌≡◌ {A = Option (List ℕ)} None (Some t) → ⊥
  none_some t e = cc

  some_inj : (s t : List ℕ) → ◌≡◌ {A = Option (List ℕ)} (Some s) (Some t) → s ≡ t
  some_inj s t e = cc

  abbrev same : V → V → Bool
  same x y = pointwise nat_eq (items x) (items y)

  -- a text that differs from all of a list is not in it
  not_there : (k : V) (keys : List V) (j : ℕ) (t : List ℕ) → items k ≡ t → AllByRecursion (λ y. same k y ≡ false) keys → slice_get (map items keys) j ≡ Some t → ⊥
  not_there k [] j t e a f = none_some t f
  not_there k (x ∷ keys) zero t e a f = true≢false (sym (rw (e, some_inj (items x) t f) (nat_list_eq_equiv.refl t)) ∙ a.0)
  not_there k (x ∷ keys) (suc j) t e a f = not_there k keys j t e a.1 f

  distinct_get : (keys : List V) (i j : ℕ) (t : List ℕ) → IsDistinct same keys → slice_get (map items keys) i ≡ Some t → slice_get (map items keys) j ≡ Some t → i ≡ j
  unfolding IsDistinct
  distinct_get [] i j t d e f = absurd (none_some t e)
  distinct_get (k ∷ keys) zero zero t d e f = refl
  distinct_get (k ∷ keys) zero (suc j) t d e f = absurd (not_there k keys j t (some_inj (items k) t e) d.0 f)
  distinct_get (k ∷ keys) (suc i) zero t d e f = absurd (not_there k keys i t (some_inj (items k) t f) d.0 e)
  distinct_get (k ∷ keys) (suc i) (suc j) t d e f = ap suc (distinct_get keys i j t d.1 e f)

  pub each_once : (keys : List V) → IsDistinct same keys → HasEachOnce (map items keys)
  each_once keys d zero n t e f = absurd (none_some t e)
  each_once keys d (suc m) zero t e f = absurd (none_some t f)
  each_once keys d (suc m) (suc n) t e f = ap suc (distinct_get keys m n t d e f)
