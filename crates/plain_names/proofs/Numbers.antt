-- Texts and numbers of names stay as they are when names come behind them.
use Rattle.std.proofs.Common.{◌≡◌, ℕ, zero, suc, ◌+◌, ◌<◌, ◌≤◌, ap, sym, refl, ◌∙◌, arith, Bool, true, false, List, [], ◌∷◌, ◌++◌, length}
use Rattle.std.specs.Prelude.{slice_get, Option, Some, None, cond, unwrap_or}
use Rattle.self_terms.specs.Names.{text_of}
use Rattle.source_model.specs.Names.{is_text, number_from, number_of, text_named}
use Rattle.source_model.specs.Formed.{Takes, HasText}

none_eq : (y : List ℕ) → ◌≡◌ {A = Option (List ℕ)} None (Some y) → ⊥
none_eq y e = cc

at_front : (xs ys : List (List ℕ)) (i : ℕ) (t : List ℕ) → slice_get xs i ≡ Some t → slice_get (xs ++ ys) i ≡ Some t
at_front [] ys i t e = absurd (none_eq t e)
at_front (x ∷ xs) ys zero t e = e
at_front (x ∷ xs) ys (suc i) t e = at_front xs ys i t e

pub text_on : (xs ys : List (List ℕ)) (n : ℕ) (t : List ℕ) → text_of xs n ≡ Some t → text_of (xs ++ ys) n ≡ Some t
text_on xs ys zero t e = e
text_on xs ys (suc n) t e = at_front xs ys n t e

slice_front : (xs ys : List (List ℕ)) (i : ℕ) → i < length xs → slice_get (xs ++ ys) i ≡ slice_get xs i
slice_front [] ys i lt = absurd (omega (arith, lt))
slice_front (x ∷ xs) ys zero lt = refl
slice_front (x ∷ xs) ys (suc i) lt = slice_front xs ys i (omega (arith, lt))

pub named_on : (xs ys : List (List ℕ)) (n : ℕ) → n ≤ length xs → text_named (xs ++ ys) n ≡ text_named xs n
named_on xs ys zero le = refl
named_on xs ys (suc n) le = ap (λ (t : Option (List ℕ)). unwrap_or t []) (slice_front xs ys n (omega (arith, le)))

pub has_text_on : (xs ys : List (List ℕ)) (n : ℕ) → HasText xs n → HasText (xs ++ ys) n
has_text_on xs ys n h = (h.0, text_on xs ys n h.0 h.1)

pub takes_on : (xs ys : List (List ℕ)) (n args : ℕ) → Takes xs n args → Takes (xs ++ ys) n args
takes_on xs ys n args h = record { text = h.text; given = text_on xs ys n h.text h.given; arguments = h.arguments }

-- a name that has a text counts among the names
at_within : (xs : List (List ℕ)) (i : ℕ) (t : List ℕ) → slice_get xs i ≡ Some t → i < length xs
at_within [] i t e = absurd (none_eq t e)
at_within (x ∷ xs) zero t e = omega arith
at_within (x ∷ xs) (suc i) t e = let lt = at_within xs i t e in omega (arith, lt)

pub text_within : (xs : List (List ℕ)) (n : ℕ) (t : List ℕ) → text_of xs n ≡ Some t → n ≤ length xs
text_within xs zero t e = omega arith
text_within xs (suc n) t e = let lt = at_within xs n t e in omega (arith, lt)

-- Numbers.

-- a text that has no number has none wherever counting begins
none_else : (b : Bool) (j k m n : ℕ) → 0 < j → (m ≡ 0 → n ≡ 0) → cond b j m ≡ 0 → cond b k n ≡ 0
none_else true j k m n lt f e = absurd (omega (arith, lt, e))
none_else false j k m n lt f e = f e

none_from : (xs : List (List ℕ)) (t : List ℕ) (j k : ℕ) → 0 < j → number_from j t xs ≡ 0 → number_from k t xs ≡ 0
none_from [] t j k lt e = refl
none_from (x ∷ xs) t j k lt e = none_else (is_text t x) j k (number_from (j + 1) t xs) (number_from (k + 1) t xs) lt (none_from xs t (j + 1) (k + 1) (omega arith)) e

cond_on : (b : Bool) (j m n : ℕ) → 0 < j → ((m ≡ 0 → ⊥) → n ≡ m) → (cond b j m ≡ 0 → ⊥) → cond b j n ≡ cond b j m
cond_on true j m n lt f e = refl
cond_on false j m n lt f e = f e

from_on : (xs ys : List (List ℕ)) (t : List ℕ) (j : ℕ) → 0 < j → (number_from j t xs ≡ 0 → ⊥) → number_from j t (xs ++ ys) ≡ number_from j t xs
from_on [] ys t j lt some = absurd (some refl)
from_on (x ∷ xs) ys t j lt some = cond_on (is_text t x) j (number_from (j + 1) t xs) (number_from (j + 1) t (xs ++ ys)) lt (from_on xs ys t (j + 1) (omega arith)) some

none_on : (xs ys : List (List ℕ)) (t : List ℕ) (j : ℕ) → 0 < j → number_from j t xs ≡ 0 → number_of ys t ≡ 0 → number_from j t (xs ++ ys) ≡ 0
none_on [] ys t j lt e d = none_from ys t 1 j (omega arith) d
none_on (x ∷ xs) ys t j lt e d = none_else (is_text t x) j j (number_from (j + 1) t xs) (number_from (j + 1) t (xs ++ ys)) lt (λ f. none_on xs ys t (j + 1) (omega arith) f d) e

-- the number of a text that has one stays
pub number_on : (xs ys : List (List ℕ)) (t : List ℕ) → (number_of xs t ≡ 0 → ⊥) → number_of (xs ++ ys) t ≡ number_of xs t
number_on xs ys t some = from_on xs ys t 1 (omega arith) some

suc_some : (k : ℕ) → suc k ≡ 0 → ⊥
suc_some k e = omega (arith, e)

stays_by : (xs ys : List (List ℕ)) (t : List ℕ) (k : ℕ) → number_of xs t ≡ k → (number_of xs t ≡ 0 → number_of ys t ≡ 0) → number_of (xs ++ ys) t ≡ number_of xs t
stays_by xs ys t zero is h = none_on xs ys t 1 (omega arith) is (h is) ∙ sym is
stays_by xs ys t (suc k) is h = number_on xs ys t (λ e. suc_some k (sym is ∙ e))

-- so it does where a text that has none gets none
pub number_stays : (xs ys : List (List ℕ)) (t : List ℕ) → (number_of xs t ≡ 0 → number_of ys t ≡ 0) → number_of (xs ++ ys) t ≡ number_of xs t
number_stays xs ys t h = stays_by xs ys t (number_of xs t) refl h
