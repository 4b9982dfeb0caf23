-- The words of all units, counted body by body.
use Rattle.std.proofs.Common.{◌≡◌, ap, sym, ℕ, zero, suc, ◌+◌, ◌<◌, ◌≤◌, List, [], ◌∷◌, drop, arith}
use Rattle.std.specs.Prelude.{false, nat_le, Some, slice_get}
use Rattle.std.proofs.lemmas.Bool.{lt-leb}
use Rattle.self_terms.specs.declared.bodies.Body.{Body}
use Rattle.plain_turns.specs.Rooms.{most_words}
use Rattle.plain_opens.specs.Opens.{all_words}

-- As far as they are counted, and so many words are left.
pub record IsCounted (xs : List Body) (k left : ℕ) : Type 0 where
  pub within : left ≤ 8388352
  pub all : all_words xs + left ≡ 8388352 + all_words (drop k xs)

all_here : (xs : List Body) (k : ℕ) (x : Body) → slice_get xs k ≡ Some x → all_words (drop k xs) ≡ most_words x + all_words (drop (suc k) xs)
all_here [] k x e = absurd (cc)
all_here (y ∷ xs) zero x e = let same : y ≡ x = cc in ap (λ (z : Body). most_words z + all_words xs) same
all_here (y ∷ xs) (suc k) x e = all_here xs k x e

-- one body more
pub one_counted : (xs : List Body) (k left rest : ℕ) (x : Body) → slice_get xs k ≡ Some x → rest + most_words x ≡ left → IsCounted xs k left → IsCounted xs (k + 1) rest
one_counted xs k left rest x e f c =
    let here = all_here xs k x e in
    let next : all_words (drop (suc k) xs) ≡ all_words (drop (k + 1) xs) = (let one : suc k ≡ k + 1 = omega arith in ap (λ n. all_words (drop n xs)) one) in
    record { within = omega (arith, f, c.within); all = omega (arith, here, next, f, c.all) }

-- too many
pub too_many : (xs : List Body) (k left : ℕ) (x : Body) → slice_get xs k ≡ Some x → left < most_words x → IsCounted xs k left → false ≡ nat_le (all_words xs) 8388352
too_many xs k left x e f c =
    let here = all_here xs k x e in
    let over : 8388352 < all_words xs = omega (arith, here, f, c.all) in
    sym (lt-leb (all_words xs) 8388352 over)
