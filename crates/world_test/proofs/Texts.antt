-- Texts, and one with a colon behind it.
use Rattle.std.specs.Prelude.{◌≡◌, ℕ, suc, ◌+◌, ◌&&◌, nat_eq, Bool, true, false, Some, List, [], ◌∷◌, ◌++◌, if◌then◌else◌, length, drop, slice_get, codes, refl}
use Rattle.std.proofs.Common.{ap, sym, subst, ◌∙◌, arith}
use Rattle.std.proofs.lemmas.Bool.{and_right}
use Rattle.std.specs.Cmp.Lexicographic.{pointwise}
use Rattle.self_terms.specs.Names.{text_of}
use Rattle.world_build.proofs.Fronts.{drop_there}
use Rattle.source_model.specs.Names.{number_from, is_text}

shorter : (xs : List ℕ) (c : ℕ) → pointwise nat_eq [] (xs ++ c ∷ []) ≡ false
shorter [] c = refl
shorter (x ∷ xs) c = refl

longer : (xs : List ℕ) (c : ℕ) → pointwise nat_eq (xs ++ c ∷ []) [] ≡ false
longer [] c = refl
longer (x ∷ xs) c = refl

turned : (a b c : Bool) → (a && (b && c)) ≡ (b && (a && c))
turned true b c = refl
turned false true c = refl
turned false false c = refl

-- the last elements and what is in front of them
pub lasts : (xs ys : List ℕ) (c d : ℕ) → pointwise nat_eq (xs ++ c ∷ []) (ys ++ d ∷ []) ≡ (nat_eq c d && pointwise nat_eq xs ys)
lasts [] [] c d = refl
lasts [] (y ∷ ys) c d = and_right (nat_eq c y) (pointwise nat_eq [] (ys ++ d ∷ [])) (shorter ys d) ∙ sym (and_right (nat_eq c d) false refl)
lasts (x ∷ xs) [] c d = and_right (nat_eq x d) (pointwise nat_eq (xs ++ c ∷ []) []) (longer xs c) ∙ sym (and_right (nat_eq c d) false refl)
lasts (x ∷ xs) (y ∷ ys) c d = ap (λ b. nat_eq x y && b) (lasts xs ys c d) ∙ turned (nat_eq x y) (nat_eq c d) (pointwise nat_eq xs ys)

pub with_colon : (text of front : List ℕ) (last : ℕ) → text ≡ front ++ last ∷ [] → is_text text (of ++ codes ":") ≡ (nat_eq last 58 && is_text front of)
with_colon text of front last e = ap (λ t. is_text t (of ++ codes ":")) e ∙ lasts front of last 58

pub no_colon : (text of : List ℕ) → length text ≡ 0 → is_text text (of ++ codes ":") ≡ false
no_colon [] of e = shorter of 58
no_colon (c ∷ cs) of e = absurd (omega (arith, e))

named_at : (names : List (List ℕ)) (x : List ℕ) (at n : ℕ) → n ≡ suc at → text_of names n ≡ Some x → slice_get names at ≡ Some x
named_at names x at n same e = subst (λ (k : ℕ). text_of names k ≡ Some x) same e

-- The number of a text among names, by what stands at a place.
number_step : (names : List (List ℕ)) (t x : List ℕ) (at : ℕ) → slice_get names at ≡ Some x
    → number_from (at + 1) t (drop at names) ≡ (if pointwise nat_eq t x then at + 1 else number_from (at + 1 + 1) t (drop (at + 1) names))
number_step names t x at e = ap (λ (xs : List (List ℕ)). number_from (at + 1) t xs) (drop_there names at x e)

pub number_here : (names : List (List ℕ)) (t x : List ℕ) (at n : ℕ) → n ≡ suc at → text_of names n ≡ Some x → pointwise nat_eq t x ≡ true → number_from (at + 1) t (drop at names) ≡ at + 1
number_here names t x at n same e h = number_step names t x at (named_at names x at n same e) ∙ ap (λ b. if b then at + 1 else number_from (at + 1 + 1) t (drop (at + 1) names)) h

pub number_later : (names : List (List ℕ)) (t x : List ℕ) (at n : ℕ) → n ≡ suc at → text_of names n ≡ Some x → pointwise nat_eq t x ≡ false
    → number_from (at + 1) t (drop at names) ≡ number_from (at + 1 + 1) t (drop (at + 1) names)
number_later names t x at n same e h = number_step names t x at (named_at names x at n same e) ∙ ap (λ b. if b then at + 1 else number_from (at + 1 + 1) t (drop (at + 1) names)) h
