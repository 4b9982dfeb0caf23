-- The rows of what locals hold, while contents are given to them one after the other.
use Rattle.std.proofs.Common.{◌≡◌, ◌≢◌, ℕ, zero, suc, ◌+◌, List, [], ◌∷◌, ◌++◌, length, inl, inr, ◌⊎◌, refl, sym, ap, subst, ◌∙◌, arith, length-append}
use Rattle.std.specs.Prelude.{Option, Some, None, map, slice_get, slice_set}
use Rattle.std.proofs.lemmas.List.{map-append, append_assoc, append-nil, length-set}
use Rattle.std.proofs.lemmas.Bool.Decides.{eqb_tells}
use Rattle.source_model.specs.Edits.{Initial}
use Rattle.world_build.specs.SlotTexts.{initials_of}
use Rattle.slot_text.specs.declared.contents.InitialTold.{InitialTold}
use Rattle.slot_text.specs.Contents.{initial}
use Rattle.slot_text.specs.Telling.{change_row, given_to, AreRows}

append_each : {X : Type 0} (P : X → Type 0) (xs : List X) (y : X) → ((n : ℕ) (x : X) → slice_get xs n ≡ Some x → P x) → P y → (n : ℕ) (x : X) → slice_get (xs ++ y ∷ []) n ≡ Some x → P x
append_each P [] y h p zero x e = let same : y ≡ x = cc in subst P same p
append_each P [] y h p (suc n) x e = absurd (cc)
append_each P (z ∷ xs) y h p zero x e = h zero x e
append_each P (z ∷ xs) y h p (suc n) x e = append_each P xs y (λ k v g. h (suc k) v g) p n x e

no_row : AreRows 0 [] []
no_row = record { many = refl; each = λ n row e. absurd (cc) }

pub none_yet : (rows : List (List InitialTold)) → rows ≡ [] → AreRows 0 [] rows
none_yet rows e = subst (AreRows 0 []) (sym e) no_row

pub one_row_more : (count : ℕ) (rows : List (List InitialTold)) (row : List InitialTold) → row ≡ [] → AreRows count [] rows → AreRows (count + 1) [] (rows ++ row ∷ [])
one_row_more count rows row none all = record {
  many = length-append rows (row ∷ []) ∙ ap (λ n. n + 1) all.many;
  each = λ n r e. append_each (λ x. map initial x ≡ []) rows row (λ k x g. all.each k x g) (ap (map initial) none) n r e;
}

not_of : (b n : ℕ) (i : Initial) (left : List (ℕ × Initial)) → b ≢ n → initials_of n ((b, i) ∷ left) ≡ initials_of n left
not_of b n i left other = elim (eqb_tells b n) [
  | inl h ↦ absurd (other h.1)
  | inr h ↦ rw (h.0) refl
]

is_of : (b n : ℕ) (i : Initial) (left : List (ℕ × Initial)) → b ≡ n → initials_of n ((b, i) ∷ left) ≡ i ∷ initials_of n left
is_of b n i left same = elim (eqb_tells b n) [
  | inl h ↦ rw (h.0) refl
  | inr h ↦ absurd (h.1 same)
]

set_cases : {X : Type 0} (xs : List X) (m n : ℕ) (y z : X) → slice_get (slice_set xs m y) n ≡ Some z → ((n ≡ m) × (z ≡ y)) ⊎ ((n ≢ m) × (slice_get xs n ≡ Some z))
set_cases [] m n y z e = absurd (cc)
set_cases (x ∷ xs) zero zero y z e = let same : z ≡ y = cc in inl (refl, same)
set_cases (x ∷ xs) zero (suc n) y z e = inr (omega arith, e)
set_cases (x ∷ xs) (suc m) zero y z e = inr (omega arith, e)
set_cases (x ∷ xs) (suc m) (suc n) y z e = elim (set_cases xs m n y z e) [
  | inl h ↦ inl (omega (arith, h.0), h.1)
  | inr h ↦ inr (omega (arith, h.0), h.1)
]

-- The rows of so many bodies have what these locals hold, but for those of them that are left.
pub record Rest (count : ℕ) (all left : List (ℕ × Initial)) (rows : List (List InitialTold)) : Type 0 where
  pub many : length rows ≡ count
  pub each : (n : ℕ) (row : List InitialTold) → slice_get rows n ≡ Some row → map initial row ++ initials_of (n + 1) left ≡ initials_of (n + 1) all

pub all_left : (count : ℕ) (all : List (ℕ × Initial)) (rows : List (List InitialTold)) → AreRows count [] rows → Rest count all all rows
all_left count all rows h = record { many = h.many; each = λ n row e. ap (λ is. is ++ initials_of (n + 1) all) (h.each n row e) }

pub none_left : (count : ℕ) (all : List (ℕ × Initial)) (rows : List (List InitialTold)) → Rest count all [] rows → AreRows count all rows
none_left count all rows h = record { many = h.many; each = λ n row e. sym (append-nil (map initial row)) ∙ h.each n row e }

none_there : (rows : List (List InitialTold)) (m n : ℕ) (row : List InitialTold) → n ≡ m → slice_get rows m ≡ None → slice_get rows n ≡ Some row → ⊥
none_there rows m n row same x y = cc

module _ (count : ℕ) (all left : List (ℕ × Initial)) (rows : List (List InitialTold)) where
  changes : (m : ℕ) (i : InitialTold) (o : Option (List InitialTold)) → slice_get rows m ≡ o → Rest count all ((suc m, initial i) ∷ left) rows → Rest count all left (change_row i o rows m)
  changes m i None at h = record {
    many = h.many;
    each = λ n row e.
        ap (λ is. map initial row ++ is) (sym (not_of (suc m) (n + 1) (initial i) left (λ same. none_there rows m n row (omega (arith, same)) at e))) ∙ h.each n row e;
  }
  changes m i (Some old) at h = record {
    many = length-set rows m (old ++ i ∷ []) ∙ h.many;
    each = λ n row e. elim (set_cases rows m n (old ++ i ∷ []) row e) [
      | inl k ↦
          ap (λ r. map initial r ++ initials_of (n + 1) left) k.1
          ∙ ap (λ is. is ++ initials_of (n + 1) left) (map-append initial old (i ∷ []))
          ∙ append_assoc (map initial old) (initial i ∷ []) (initials_of (n + 1) left)
          ∙ ap (λ is. map initial old ++ is) (sym (is_of (suc m) (n + 1) (initial i) left (omega (arith, k.0))))
          ∙ h.each n old (ap (slice_get rows) k.0 ∙ at)
      | inr k ↦ ap (λ is. map initial row ++ is) (sym (not_of (suc m) (n + 1) (initial i) left (omega (arith, k.0)))) ∙ h.each n row k.1
    ];
  }

  pub gives : (b : ℕ) (i : InitialTold) → Rest count all ((b, initial i) ∷ left) rows → Rest count all left (given_to b i rows)
  gives zero i h = record {
    many = h.many;
    each = λ n row e. ap (λ is. map initial row ++ is) (sym (not_of 0 (n + 1) (initial i) left (omega arith))) ∙ h.each n row e;
  }
  gives (suc m) i h = changes m i (slice_get rows m) refl h
