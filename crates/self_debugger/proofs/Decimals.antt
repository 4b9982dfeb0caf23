-- A text of digits without leading zeros is the decimal notation of its number, and no other text is.
use Rattle.std.proofs.Common.{◌≡◌, ℕ, ◌+◌, ◌-◌, ◌*◌, ◌^◌, ◌<◌, ◌≤◌, ◌∙◌, List, length, get_or, Bool, true, false, not, ◌&&◌, ◌||◌, leb, nat_eq, nat_lt, nat_le, decimal, fold, refl, sym, ap, arith, ◌⊎◌, inl, inr, eq-or-lt_of_le, zero-le, leb-true, le-leb, ltb-true, lt-ltb, eqb-true, eq-eqb, true≢false, subst}
use Rattle.std.specs.Char.{is_ascii_digit}
use Rattle.std.specs.List.{list_all}
use Rattle.std.proofs.lemmas.Fmt.{decimal_digit, decimal-digits_value, digits_decimal, digits_value-decimal, decimal_injective, first_decimal, decimal_nonempty}
use Rattle.std.proofs.lemmas.Str.Parse.{IsDigitsTest, FoldsDigits, IsNumeralModel, numerals_by_fold}
use Rattle.std.proofs.lemmas.Int.Digits.{digits_value-lt}
use Rattle.std.proofs.Math.Nat.{pow-le-pow_right}
use Rattle.self_debugger.specs.Numbers.{AreDigits, number, is_plain}
use Rattle.self_debugger.specs.Meanings.{OneOrNone}

both_true : (a b : Bool) → (a && b) ≡ true → (a ≡ true) × (b ≡ true)
both_true true b e = (refl, e)
both_true false b e = absurd (cc)

-- powers of ten grow
power_within : (k n : ℕ) → k ≤ n → 10 ^ k ≤ 10 ^ n
power_within k n h = pow-le-pow_right (omega arith) h

tells_digits : IsDigitsTest AreDigits
tells_digits = record {
  empty = refl;
  parts = λ c cs e. let k = both_true (is_ascii_digit c) (list_all is_ascii_digit cs) e in let m = both_true (leb 48 c) (leb c 57) (k.0) in ((leb-true 48 c (m.0), leb-true c 57 (m.1)), k.1);
  more = λ c cs k e i. (le-leb 48 c (k.0) i && le-leb c 57 (k.1) i) && e i;
}

-- the number of digits behind others that stand for v
abbrev number_after : ℕ → List ℕ → ℕ
number_after v ds = fold (λ v d. 10 * v + (d - 48)) v ds

folds : FoldsDigits number_after
folds = record {
  empty = λ n. refl;
  more = λ n c cs k. ap (λ m. number_after m cs) (omega arith);
}

pub numerals : IsNumeralModel AreDigits number
numerals = numerals_by_fold AreDigits tells_digits number_after folds

lead_told : (zero_first one : Bool) → (not zero_first || one) ≡ true → zero_first ≡ true → one ≡ true
lead_told true one e z = e
lead_told false one e z = absurd (cc)

lead_test : (zero_first one : Bool) → (zero_first ≡ true → one ≡ true) → (not zero_first || one) ≡ true
lead_test true one h = h refl
lead_test false one h = refl

-- the parts of what is tested
pub record IsPlain (t : List ℕ) : Type 0 where
  pub some : 0 < length t
  pub digits : AreDigits t
  pub lead : get_or t 0 0 ≡ 48 → length t ≡ 1

pub plain_parts : (t : List ℕ) → is_plain t ≡ true → IsPlain t
plain_parts t e =
    let k = both_true (nat_lt 0 (length t) && list_all is_ascii_digit t) (not (nat_eq (get_or t 0 0) 48) || nat_eq (length t) 1) e in
    let m = both_true (nat_lt 0 (length t)) (list_all is_ascii_digit t) (k.0) in
    record {
      some = ltb-true 0 (length t) (m.0);
      digits = m.1;
      lead = λ z. eqb-true (length t) 1 (lead_told (nat_eq (get_or t 0 0) 48) (nat_eq (length t) 1) (k.1) (eq-eqb (get_or t 0 0) 48 z));
    }

pub plain_test : (t : List ℕ) → IsPlain t → is_plain t ≡ true
plain_test t p =
    let lead = lead_test (nat_eq (get_or t 0 0) 48) (nat_eq (length t) 1) (λ z. eq-eqb (length t) 1 (p.lead (eqb-true (get_or t 0 0) 48 z))) in
    λ i. lt-ltb 0 (length t) (p.some) i && p.digits i && lead i

pub number_within : (t : List ℕ) → AreDigits t → number t < 10 ^ length t
number_within t are = let d = numerals.to t are in omega (arith, numerals.same t d, digits_value-lt 10 t d)

pub decimal_of : (t : List ℕ) → IsPlain t → length t ≤ 10 → t ≡ decimal (number t)
decimal_of t p few = sym (decimal-digits_value numerals t (p.digits) (p.some) (p.lead) (omega (arith, number_within t (p.digits), power_within (length t) 10 few)))

pub plain_decimal : (n : ℕ) → n < 2 ^ 64 → IsPlain (decimal n)
plain_decimal n small = record { some = decimal_nonempty n small; digits = digits_decimal numerals n small; lead = lead (eq-or-lt_of_le (zero-le {n = n})) }
  where
    lead : (0 ≡ n) ⊎ (0 < n) → get_or (decimal n) 0 0 ≡ 48 → length (decimal n) ≡ 1
    lead (inl e) z = ap length (ap decimal (sym e) ∙ decimal_digit 0 (omega arith))
    lead (inr e) z = absurd (omega (arith, first_decimal n e small))

pub number_decimal : (n : ℕ) → n < 2 ^ 64 → number (decimal n) ≡ n
number_decimal n small = digits_value-decimal numerals n small

-- a text is the decimal notation of one number of at most so much, or of none
pub one_number : (t : List ℕ) (most : ℕ) → most < 2 ^ 64 → OneOrNone (λ n. (t ≡ decimal n) × (n ≤ most))
one_number t most small = record {
  either = by (is_plain t && nat_le (number t) most) refl;
  one = λ m n p q. decimal_injective m n (omega (arith, p.1)) (omega (arith, q.1)) (sym (p.0) ∙ q.0);
}
  where
    by : (b : Bool) → (is_plain t && nat_le (number t) most) ≡ b → ((n : ℕ) × ((t ≡ decimal n) × (n ≤ most))) ⊎ ((n : ℕ) → ¬ ((t ≡ decimal n) × (n ≤ most)))
    by true e =
        let k = both_true (is_plain t) (nat_le (number t) most) e in
        let p = plain_parts t (k.0) in
        let few = leb-true (number t) most (k.1) in
        inl (number t, (sym (decimal-digits_value numerals t (p.digits) (p.some) (p.lead) (omega (arith, few))), few))
    by false e = inr (λ n h.
        let within : n < 2 ^ 64 = omega (arith, h.1) in
        let plain = plain_test t (subst IsPlain (sym (h.0)) (plain_decimal n within)) in
        let few = le-leb (number t) most (omega (arith, h.1, ap number (h.0) ∙ number_decimal n within)) in
        true≢false (sym (λ i. plain i && few i) ∙ e))
