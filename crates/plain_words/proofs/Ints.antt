-- Sums and differences of the words of integers.
use Rattle.std.proofs.Common.{◌≡◌, ℕ, suc, ◌+◌, ◌-◌, ◌*◌, ◌%◌, ◌^◌, ◌<◌, ◌≤◌, refl, ◌∙◌, ap, sym, subst, arith, inl, inr}
use Rattle.std.specs.Prelude.{Bool, true, false, not, nat_eq, ◌||◌, ◌&&◌, ℤ, pos, negsuc, int_le, ◌+ℤ◌, ◌-ℤ◌}
use Rattle.std.proofs.lemmas.Grind.{common_steps}
use Rattle.std.proofs.lemmas.Int.{ints}
use Rattle.std.proofs.lemmas.Bool.{cases_lt, eqb-true}
use Rattle.self_terms.specs.Words.{IsSmall, word_of}
use Rattle.sparc_machine.specs.State.{Flags}
use Rattle.sparc_machine.specs.Alu.{add, sub, sum_flags, difference_flags, tagged, is_tagged}
use Rattle.plain_words.specs.Moves.{summed, overflows}

-- an integer has 30 bits
abbrev is_small : ℤ → Bool
is_small i = int_le (negsuc 536870911) i && int_le i (pos 536870911)

small_test : (z : ℤ) → is_small z ≡ true → IsSmall z
small_test (pos n) e = grind (arith, common_steps)
small_test (negsuc n) e = grind (arith, common_steps)

big_test : (z : ℤ) → is_small z ≡ false → IsSmall z → ⊥
big_test (pos n) e h = grind (arith, common_steps)
big_test (negsuc n) e h = grind (arith, common_steps)

apart_sum : (a b : ℕ) → suc b ≤ a → pos a +ℤ negsuc b ≡ pos (a - suc b)
apart_sum a b h = omega (arith, ints)

apart_sum_below : (a b : ℕ) → a < suc b → pos a +ℤ negsuc b ≡ negsuc (b - a)
apart_sum_below a b h = omega (arith, ints)

flip_sum : (a b : ℕ) → negsuc b +ℤ pos a ≡ pos a +ℤ negsuc b
flip_sum a b = omega (arith, ints)

word_mod : (z : ℤ) → IsSmall z → word_of z % 4 ≡ 0
word_mod (pos n) h = omega arith
word_mod (negsuc n) h = omega arith

-- the words of integers have no tag
untagged : (x y : ℤ) → IsSmall x → IsSmall y → is_tagged (word_of x) (word_of y) ≡ false
untagged x y hx hy = rw (word_mod x hx, word_mod y hy) refl

flipped : (x y : ℕ) → add x y ≡ add y x
flipped x y = ap (λ k. k % 2 ^ 32) (omega arith)

mixed_below : (a b : ℕ) → a < suc b → a ≤ 536870911 → b ≤ 536870911 → add (4 * a) (2 ^ 32 - 4 * (b + 1)) ≡ 2 ^ 32 - 4 * (b - a + 1)
mixed_below a b lt ha hb = omega arith

mixed_above : (a b : ℕ) → suc b ≤ a → a ≤ 536870911 → b ≤ 536870911 → add (4 * a) (2 ^ 32 - 4 * (b + 1)) ≡ 4 * (a - suc b)
mixed_above a b ge ha hb = omega arith

small_below : (a b : ℕ) → b ≤ 536870911 → is_small (negsuc (b - a)) ≡ true
small_below a b hb = grind (arith, common_steps)

small_above : (a b : ℕ) → a ≤ 536870911 → is_small (pos (a - suc b)) ≡ true
small_above a b ha = grind (arith, common_steps)

over_mixed : (a b : ℕ) → a ≤ 536870911 → b ≤ 536870911 → (sum_flags (4 * a) (2 ^ 32 - 4 * (b + 1))).overflow ≡ false
over_mixed a b ha hb = grind (arith, common_steps)

over_flipped : (a b : ℕ) → a ≤ 536870911 → b ≤ 536870911 → (sum_flags (2 ^ 32 - 4 * (a + 1)) (4 * b)).overflow ≡ false
over_flipped a b ha hb = grind (arith, common_steps)

-- a sum of integers within 30 bits is the sum of their words
sum_word : (x y : ℤ) → IsSmall x → IsSmall y → IsSmall (x +ℤ y) → add (word_of x) (word_of y) ≡ word_of (x +ℤ y)
sum_word (pos a) (pos b) hx hy h = omega arith
sum_word (negsuc a) (negsuc b) hx hy h = omega arith
sum_word (pos a) (negsuc b) hx hy h = elim (cases_lt a (suc b)) [
  | inl lt ↦ ap (λ k. k) (mixed_below a b lt hx hy) ∙ sym (ap word_of (apart_sum_below a b lt))
  | inr ge ↦ mixed_above a b ge hx hy ∙ sym (ap word_of (apart_sum a b ge))
]
sum_word (negsuc a) (pos b) hx hy h = elim (cases_lt b (suc a)) [
  | inl lt ↦ flipped (word_of (negsuc a)) (word_of (pos b)) ∙ mixed_below b a lt hy hx ∙ sym (ap word_of (flip_sum b a ∙ apart_sum_below b a lt))
  | inr ge ↦ flipped (word_of (negsuc a)) (word_of (pos b)) ∙ mixed_above b a ge hy hx ∙ sym (ap word_of (flip_sum b a ∙ apart_sum b a ge))
]

-- and sets no overflow just where it is within them
sum_overflow : (x y : ℤ) → IsSmall x → IsSmall y → (sum_flags (word_of x) (word_of y)).overflow ≡ not (is_small (x +ℤ y))
sum_overflow (pos a) (pos b) hx hy = grind (arith, common_steps)
sum_overflow (negsuc a) (negsuc b) hx hy = grind (arith, common_steps)
sum_overflow (pos a) (negsuc b) hx hy = elim (cases_lt a (suc b)) [
  | inl lt ↦ over_mixed a b hx hy ∙ sym (ap not (ap is_small (apart_sum_below a b lt) ∙ small_below a b hy))
  | inr ge ↦ over_mixed a b hx hy ∙ sym (ap not (ap is_small (apart_sum a b ge) ∙ small_above a b hx))
]
sum_overflow (negsuc a) (pos b) hx hy = elim (cases_lt b (suc a)) [
  | inl lt ↦ over_flipped a b hx hy ∙ sym (ap not (ap is_small (flip_sum b a ∙ apart_sum_below b a lt) ∙ small_below b a hx))
  | inr ge ↦ over_flipped a b hx hy ∙ sym (ap not (ap is_small (flip_sum b a ∙ apart_sum b a ge) ∙ small_above b a hy))
]

less_above : (a b : ℕ) → b ≤ a → pos a -ℤ pos b ≡ pos (a - b)
less_above a b h = omega (arith, ints)

less_below : (a b : ℕ) → a < b → pos a -ℤ pos b ≡ negsuc (b - a - 1)
less_below a b h = omega (arith, ints)

less_negative : (a b : ℕ) → pos a -ℤ negsuc b ≡ pos (a + b + 1)
less_negative a b = omega (arith, ints)

negative_less : (a b : ℕ) → negsuc a -ℤ pos b ≡ negsuc (a + b)
negative_less a b = omega (arith, ints)

both_above : (a b : ℕ) → a ≤ b → negsuc a -ℤ negsuc b ≡ pos (b - a)
both_above a b h = omega (arith, ints)

both_below : (a b : ℕ) → b < a → negsuc a -ℤ negsuc b ≡ negsuc (a - b - 1)
both_below a b h = omega (arith, ints)

-- what a difference of words is, where the exact difference is z
record Differs (x y : ℕ) (z : ℤ) : Type 0 where
  word : IsSmall z → sub x y ≡ word_of z
  over : (difference_flags x y).overflow ≡ not (is_small z)

differs_1 : (a b : ℕ) → b ≤ a → a ≤ 536870911 → b ≤ 536870911 → Differs (4 * a) (4 * b) (pos (a - b))
differs_1 a b h ha hb = record { word = λ s. omega arith; over = grind (arith, common_steps) }

differs_2 : (a b : ℕ) → a < b → a ≤ 536870911 → b ≤ 536870911 → Differs (4 * a) (4 * b) (negsuc (b - a - 1))
differs_2 a b h ha hb = record { word = λ s. omega arith; over = grind (arith, common_steps) }

differs_3 : (a b : ℕ) → a ≤ 536870911 → b ≤ 536870911 → Differs (4 * a) (2 ^ 32 - 4 * (b + 1)) (pos (a + b + 1))
differs_3 a b ha hb = record { word = λ s. omega arith; over = grind (arith, common_steps) }

differs_4 : (a b : ℕ) → a ≤ 536870911 → b ≤ 536870911 → Differs (2 ^ 32 - 4 * (a + 1)) (4 * b) (negsuc (a + b))
differs_4 a b ha hb = record { word = λ s. omega arith; over = grind (arith, common_steps) }

differs_5 : (a b : ℕ) → a ≤ b → a ≤ 536870911 → b ≤ 536870911 → Differs (2 ^ 32 - 4 * (a + 1)) (2 ^ 32 - 4 * (b + 1)) (pos (b - a))
differs_5 a b h ha hb = record { word = λ s. omega arith; over = grind (arith, common_steps) }

differs_6 : (a b : ℕ) → b < a → a ≤ 536870911 → b ≤ 536870911 → Differs (2 ^ 32 - 4 * (a + 1)) (2 ^ 32 - 4 * (b + 1)) (negsuc (a - b - 1))
differs_6 a b h ha hb = record { word = λ s. omega arith; over = grind (arith, common_steps) }

at_equal : (x y : ℕ) (z z' : ℤ) → z' ≡ z → Differs x y z → Differs x y z'
at_equal x y z z' e d = let P : ℤ → Type 0 = λ v. Differs x y v in subst P (sym e) d

differs : (x y : ℤ) → IsSmall x → IsSmall y → Differs (word_of x) (word_of y) (x -ℤ y)
differs (pos a) (pos b) hx hy = elim (cases_lt a b) [
  | inl lt ↦ at_equal _ _ _ _ (less_below a b lt) (differs_2 a b lt hx hy)
  | inr ge ↦ at_equal _ _ _ _ (less_above a b ge) (differs_1 a b ge hx hy)
]
differs (pos a) (negsuc b) hx hy = at_equal _ _ _ _ (less_negative a b) (differs_3 a b hx hy)
differs (negsuc a) (pos b) hx hy = at_equal _ _ _ _ (negative_less a b) (differs_4 a b hx hy)
differs (negsuc a) (negsuc b) hx hy = elim (cases_lt b a) [
  | inl lt ↦ at_equal _ _ _ _ (both_below a b lt) (differs_6 a b lt hx hy)
  | inr ge ↦ at_equal _ _ _ _ (both_above a b ge) (differs_5 a b ge hx hy)
]

-- the tagged forms see no tag
untagged_flags : (x y : ℤ) (f : Flags) → IsSmall x → IsSmall y → (tagged (word_of x) (word_of y) f).overflow ≡ f.overflow
untagged_flags x y f hx hy = ap (λ b. b || f.overflow) (untagged x y hx hy)

by_flag : (z : ℤ) (b : Bool) → is_small z ≡ b → not b ≡ false → IsSmall z
by_flag z true e h = small_test z e
by_flag z false e h = absurd (cc)

by_size : (z : ℤ) (b : Bool) → is_small z ≡ b → IsSmall z → not b ≡ false
by_size z true e h = refl
by_size z false e h = absurd (big_test z e h)

sum_flag : (x y : ℤ) → IsSmall x → IsSmall y → overflows false (word_of x) (word_of y) ≡ not (is_small (x +ℤ y))
sum_flag x y hx hy = untagged_flags x y (sum_flags (word_of x) (word_of y)) hx hy ∙ sum_overflow x y hx hy

difference_flag : (x y : ℤ) → IsSmall x → IsSmall y → overflows true (word_of x) (word_of y) ≡ not (is_small (x -ℤ y))
difference_flag x y hx hy = untagged_flags x y (difference_flags (word_of x) (word_of y)) hx hy ∙ (differs x y hx hy).over

pub sum_is : (x y : ℤ) → IsSmall x → IsSmall y → IsSmall (x +ℤ y) → (overflows false (word_of x) (word_of y) ≡ false) × (summed false (word_of x) (word_of y) ≡ word_of (x +ℤ y))
sum_is x y hx hy h = (sum_flag x y hx hy ∙ by_size (x +ℤ y) (is_small (x +ℤ y)) refl h, sum_word x y hx hy h)

pub difference_is : (x y : ℤ) → IsSmall x → IsSmall y → IsSmall (x -ℤ y) → (overflows true (word_of x) (word_of y) ≡ false) × (summed true (word_of x) (word_of y) ≡ word_of (x -ℤ y))
difference_is x y hx hy h = (difference_flag x y hx hy ∙ by_size (x -ℤ y) (is_small (x -ℤ y)) refl h, (differs x y hx hy).word h)

pub sum_fits : (x y : ℤ) → IsSmall x → IsSmall y → overflows false (word_of x) (word_of y) ≡ false → IsSmall (x +ℤ y)
sum_fits x y hx hy e = by_flag (x +ℤ y) (is_small (x +ℤ y)) refl (sym (sum_flag x y hx hy) ∙ e)

pub difference_fits : (x y : ℤ) → IsSmall x → IsSmall y → overflows true (word_of x) (word_of y) ≡ false → IsSmall (x -ℤ y)
difference_fits x y hx hy e = by_flag (x -ℤ y) (is_small (x -ℤ y)) refl (sym (difference_flag x y hx hy) ∙ e)

neither : (a b c : Bool) → ((not a || not b) || c) ≡ false → (a ≡ true) × (b ≡ true)
neither true true c h = (refl, refl)
neither true false c h = absurd (cc)
neither false b c h = absurd (cc)

pub words_untagged : (less : Bool) (x y : ℕ) → overflows less x y ≡ false → (x % 4 ≡ 0) × (y % 4 ≡ 0)
words_untagged false x y h = let q = neither (nat_eq (x % 4) 0) (nat_eq (y % 4) 0) (sum_flags x y).overflow h in (eqb-true (x % 4) 0 q.0, eqb-true (y % 4) 0 q.1)
words_untagged true x y h = let q = neither (nat_eq (x % 4) 0) (nat_eq (y % 4) 0) (difference_flags x y).overflow h in (eqb-true (x % 4) 0 q.0, eqb-true (y % 4) 0 q.1)
