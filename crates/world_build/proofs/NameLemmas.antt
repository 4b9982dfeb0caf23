-- Numbers of texts: a text that is there has one number, which stays as texts are added.
use Rattle.std.proofs.Common.{◌≡◌, ℕ, zero, suc, ◌+◌, ◌<◌, ◌≤◌, true, false, List, [], ◌∷◌, ◌++◌, length, inl, inr, refl, sym, ap, ◌∙◌, arith, length-append, subst}
use Rattle.std.specs.Prelude.{nat_eq, Option, Some, slice_get, Result, Ok, Err, OnOk, OnErr}
use Rattle.std.specs.List.{list_any}
use Rattle.std.specs.Cmp.Lexicographic.{pointwise, same_text}
use Rattle.std.proofs.lemmas.Bool.{cases_Bool}
use Rattle.std.proofs.lemmas.Cmp.{nat_list_eq_equiv}
use Rattle.self_terms.specs.Names.{text_of, with_text, HasEachOnce}
use Rattle.source_model.specs.Names.{number_from}
use Rattle.world_build.specs.Known.{IsNumber, Knows}

some_text : (s t : List ℕ) → ◌≡◌ {A = Option (List ℕ)} (Some s) (Some t) → s ≡ t
some_text s t e = cc

abbrev Found : ℕ → List ℕ → List (List ℕ) → Type 0
Found k t xs = (j : ℕ) × (number_from k t xs ≡ k + j) × (slice_get xs j ≡ Some t)

found_here : (k : ℕ) (t x : List ℕ) (xs : List (List ℕ)) → pointwise nat_eq t x ≡ true → Found k t (x ∷ xs)
found_here k t x xs h = (0, rw h (omega arith), ap Some (sym (same_text t x (sym h))))

found_later : (k : ℕ) (t x : List ℕ) (xs : List (List ℕ)) → pointwise nat_eq t x ≡ false → Found (k + 1) t xs → Found k t (x ∷ xs)
found_later k t x xs h f = (suc f.0, rw h (omega (arith, f.1)), f.2)

found : (k : ℕ) (t : List ℕ) (xs : List (List ℕ)) (i : ℕ) → slice_get xs i ≡ Some t → Found k t xs
found k t [] i e = cc
found k t (x ∷ xs) zero e = found_here k t x xs (rw (some_text x t e) (nat_list_eq_equiv.refl t))
found k t (x ∷ xs) (suc i) e = elim (cases_Bool (pointwise nat_eq t x)) [
  | inl h ↦ found_here k t x xs h
  | inr h ↦ found_later k t x xs h (found (k + 1) t xs i e)
]

-- the name of a text is its number
pub number_named : (names : List (List ℕ)) (t : List ℕ) (n : ℕ) → HasEachOnce names → text_of names n ≡ Some t → IsNumber names t n
number_named names t zero h e = cc
number_named names t (suc i) h e =
    let f = found 1 t names i e in
    let same : suc i ≡ suc f.0 = h (suc i) (suc f.0) t e f.2 in
    record { number = same ∙ (omega arith) ∙ sym f.1; given = omega arith }

from_more : (k : ℕ) (t : List ℕ) (xs ys : List (List ℕ)) → 0 < number_from k t xs → number_from k t (xs ++ ys) ≡ number_from k t xs
from_more k t [] ys h = omega arith
from_more k t (x ∷ xs) ys h = elim (cases_Bool (pointwise nat_eq t x)) [
  | inl e ↦ rw (e) refl
  | inr e ↦ rw (e) (from_more (k + 1) t xs ys (rw e at h))
]

number_more : (names : List (List ℕ)) (u t : List ℕ) (n : ℕ) → IsNumber names t n → IsNumber (names ++ u ∷ []) t n
number_more names u t n k =
    record { number = k.number ∙ sym (from_more 1 t names (u ∷ []) (omega (arith, k.number, k.given))); given = k.given }

-- the number of a text that is there stays
pub number_stays : (names : List (List ℕ)) (u t : List ℕ) (n : ℕ) → IsNumber names t n → IsNumber (with_text names u) t n
number_stays names u t n k = elim (cases_Bool (list_any (pointwise nat_eq u) names)) [
  | inl e ↦ rw e k
  | inr e ↦ rw e (number_more names u t n k)
]

-- one text more at most
pub length-with_text : (names : List (List ℕ)) (u : List ℕ) → length (with_text names u) ≤ length names + 1
length-with_text names u = elim (cases_Bool (list_any (pointwise nat_eq u) names)) [
  | inl e ↦ rw e (omega arith)
  | inr e ↦ rw e (omega (arith, length-append names (u ∷ [])))
]

-- the numbers of the names that a world must have stay
pub knows_stays : (names : List (List ℕ)) (u : List ℕ) (a b c d e f g h : ℕ) → Knows names a b c d e f g h → Knows (with_text names u) a b c d e f g h
knows_stays names u a b c d e f g h k = record {
  lobby = number_stays names u _ a k.lobby;
  nil = number_stays names u _ b k.nil;
  yes = number_stays names u _ c k.yes;
  no = number_stays names u _ d k.no;
  integers = number_stays names u _ e k.integers;
  strings = number_stays names u _ f k.strings;
  vectors = number_stays names u _ g k.vectors;
  blocks = number_stays names u _ h k.blocks;
}

-- the same where the texts are those with one more
pub number_kept : (old new : List (List ℕ)) (u t : List ℕ) (n : ℕ) → new ≡ with_text old u → IsNumber old t n → IsNumber new t n
number_kept old new u t n e k = rw e (number_stays old u t n k)

pub number_as : (names : List (List ℕ)) (t u : List ℕ) (n : ℕ) → t ≡ u → IsNumber names t n → IsNumber names u n
number_as names t u n e k = subst (λ (x : List ℕ). IsNumber names x n) e k

pub grown : (old new x : List (List ℕ)) (t u : List ℕ) → old ≡ x → new ≡ with_text old t → t ≡ u → new ≡ with_text x u
grown old new x t u e f g = f ∙ rw (e, g) refl

-- also where memory runs out, which leaves the texts as they are
pub knows_after : {N E : Type 0} (r : Result N E) (old new : List (List ℕ)) (u : List ℕ) (a b c d e f g h : ℕ) → OnOk r (new ≡ with_text old u) → OnErr r (new ≡ old) → Knows old a b c d e f g h → Knows new a b c d e f g h
knows_after (Ok n) old new u a b c d e f g h p q k = subst (λ (x : List (List ℕ)). Knows x a b c d e f g h) (sym p) (knows_stays old u a b c d e f g h k)
knows_after (Err m) old new u a b c d e f g h p q k = subst (λ (x : List (List ℕ)). Knows x a b c d e f g h) (sym q) k
