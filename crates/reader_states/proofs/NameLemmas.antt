-- Names in parts, as a set of vectors keeps them, are the list of lists that they are seen as.
use Rattle.std.proofs.Common.{◌≡◌, ℕ, Bool, true, false, List, [], ◌∷◌, ◌++◌, inl, inr, refl, ap, map}
use Rattle.std.specs.Prelude.{nat_eq, not, if◌then◌else◌}
use Rattle.std.specs.List.{list_any}
use Rattle.std.specs.Cmp.Lexicographic.{pointwise}
use Rattle.std.proofs.lemmas.Bool.{cases_Bool}
use Rattle.self_grammar.specs.Scopes.{with_name}

not_not : (b : Bool) → not (not b) ≡ b
not_not true = refl
not_not false = refl

module _ {V : Type 0} (items : V → List ℕ) where
  any_map : (p : List ℕ → Bool) (keys : List V) → list_any (λ v. p (items v)) keys ≡ list_any p (map items keys)
  any_map p [] = refl
  any_map p (k ∷ keys) = rw (any_map p keys) refl

  map_append : (keys : List V) (k : V) → map items (keys ++ k ∷ []) ≡ map items keys ++ items k ∷ []
  map_append [] k = refl
  map_append (x ∷ keys) k = ap (λ z. items x ∷ z) (map_append keys k)

  pub was_there : (keys : List V) (names : List (List ℕ)) (k : V) (name : List ℕ) (new : Bool) → map items keys ≡ names → items k ≡ name
      → new ≡ not (list_any (λ v. pointwise nat_eq (items k) (items v)) keys) → not new ≡ list_any (pointwise nat_eq name) names
  was_there keys names k name new s e f = rw (f, not_not, any_map (pointwise nat_eq (items k)) keys, s, e) refl

  pub with_there : (keys keys' : List V) (names : List (List ℕ)) (k : V) (name : List ℕ) → map items keys ≡ names → items k ≡ name
      → keys' ≡ (if list_any (λ v. pointwise nat_eq (items k) (items v)) keys then keys else keys ++ k ∷ [])
      → map items keys' ≡ with_name names name
  with_there keys keys' names k name s e f = elim (cases_Bool (list_any (λ v. pointwise nat_eq (items k) (items v)) keys)) [
    | inl t ↦ rw (f, ← s, ← e, ← any_map (pointwise nat_eq (items k)) keys, t) refl
    | inr t ↦ rw (f, ← s, ← e, ← any_map (pointwise nat_eq (items k)) keys, t) (map_append keys k)
  ]
