-- The first part of a text that is cut at a mark.
use Rattle.std.proofs.Common.{◌≡◌, ◌+◌, ℕ, suc, Bool, true, false, not, cond, List, [], ◌∷◌, take, drop, refl, arith, ◌⊎◌, inl, inr}
use Rattle.std.specs.List.{slice_split, onto_first, position_or_len}

-- the parts behind the first
abbrev pub other_parts : (ℕ → Bool) → List ℕ → List (List ℕ)
other_parts p [] = []
other_parts p (x ∷ xs) = cond (p x) (slice_split p xs) (other_parts p xs)

pub one_plus : (k : ℕ) → 1 + k ≡ suc k
one_plus k = omega arith

first_case : (p : ℕ → Bool) (x : ℕ) (xs : List ℕ) (b : Bool) → slice_split p xs ≡ take (position_or_len p xs) xs ∷ other_parts p xs →
    cond b ([] ∷ slice_split p xs) (onto_first x (slice_split p xs)) ≡ take (cond (not b) (1 + position_or_len p xs) 0) (x ∷ xs) ∷ cond b (slice_split p xs) (other_parts p xs)
first_case p x xs true e = refl
first_case p x xs false e = rw (e, one_plus (position_or_len p xs)) refl

pub first_part : (p : ℕ → Bool) (t : List ℕ) → slice_split p t ≡ take (position_or_len p t) t ∷ other_parts p t
first_part p [] = refl
first_part p (x ∷ xs) = first_case p x xs (p x) (first_part p xs)

-- the other parts are those of the text behind the mark, or there is none
abbrev pub AreBehind : (ℕ → Bool) → List (List ℕ) → List ℕ → Type 0
AreBehind p others rest = (others ≡ slice_split p rest) ⊎ ((others ≡ []) × (rest ≡ []))

others_case : (p : ℕ → Bool) (x : ℕ) (xs : List ℕ) (b : Bool) → AreBehind p (other_parts p xs) (drop (position_or_len p xs + 1) xs) →
    AreBehind p (cond b (slice_split p xs) (other_parts p xs)) (drop (cond (not b) (1 + position_or_len p xs) 0 + 1) (x ∷ xs))
others_case p x xs true h = inl refl
others_case p x xs false h = let e : 1 + position_or_len p xs + 1 ≡ suc (position_or_len p xs + 1) = omega arith in rw e h

pub others : (p : ℕ → Bool) (t : List ℕ) → AreBehind p (other_parts p t) (drop (position_or_len p t + 1) t)
others p [] = inr (refl, refl)
others p (x ∷ xs) = others_case p x xs (p x) (others p xs)
