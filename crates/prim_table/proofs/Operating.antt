-- Answers of operations over integers.
use Rattle.std.proofs.Common.{◌≡◌, refl, sym, ap, subst, ◌∙◌, ℕ, zero, suc, ◌+◌, ◌-◌, ◌*◌, ◌/◌, ◌%◌, Bool, false, [], ◌∷◌, ℤ, pos, negsuc, w32, w64, of_z, to_z, FitsSigned, arith}
use Rattle.std.proofs.Math.Dec.{leb-suc-zero}
use Rattle.std.specs.Prelude.{◌&&◌, nat_le, nat_lt}
use Rattle.std.proofs.Math.Facts.{to_z-of_z}
use Rattle.std.proofs.lemmas.Bool.{cond-true, cond-false, lt-ltb, le-ltb}
use Rattle.self_terms.specs.Words.{IsSmall, word_of, int_of}
use Rattle.self_terms.specs.declared.values.Value.{Value}
use Rattle.self_terms.specs.declared.values.Value.TheVariants as values
use Rattle.self_terms.specs.declared.errors.ErrorName.TheVariants as errors
use Rattle.source_model.specs.Primitives.{Effect, Fails, checked, divided, int_eq, of_integers}
use Rattle.source_model.specs.declared.objects.Core.{Core}
use Rattle.heap_cells.specs.Laying.{Cells}
use Rattle.heap_cells.specs.Standing.{Places, IsValue}
use Rattle.heap_cells.proofs.Reading.{integer_aligned}
use Rattle.prim_table.specs.declared.answers.PrimAnswer.{PrimAnswer}
use Rattle.prim_table.specs.declared.kinds.Operation.{Operation}
use Rattle.prim_table.specs.Answers.{IsPlain, AreTagged}
use Rattle.prim_table.specs.Kinds.{operated}

-- the same effect of integers that are read back from their words
pub read_back : (f : ℤ → ℤ → Effect) (h : Cells) (p : Places) (r : PrimAnswer) (x y : ℤ) → FitsSigned w32 x → FitsSigned w32 y
    → IsPlain h p r (f (to_z w32 (of_z w32 x)) (to_z w32 (of_z w32 y))) → IsPlain h p r (f x y)
read_back f h p r x y a b is = subst (λ (e : Effect). IsPlain h p r e) (λ i. f (to_z-of_z a i) (to_z-of_z b i)) is

pub operated_as : (known : Core) (op as_is : Operation) (h : Cells) (p : Places) (r : PrimAnswer) (x y : ℤ) → op ≡ as_is → FitsSigned w32 x → FitsSigned w32 y
    → IsPlain h p r (operated known as_is (to_z w32 (of_z w32 x)) (to_z w32 (of_z w32 y))) → IsPlain h p r (operated known op x y)
operated_as known op as_is h p r x y e a b is =
    subst (λ (o : Operation). IsPlain h p r (operated known o x y)) (sym e) (read_back (operated known as_is) h p r x y a b is)

-- the same of a result that fits
pub checked_as : (h : Cells) (p : Places) (r : PrimAnswer) (w z : ℤ) → FitsSigned w64 w → w ≡ z → IsPlain h p r (checked (to_z w64 (of_z w64 w))) → IsPlain h p r (checked z)
checked_as h p r w z fits e is = subst (λ (i : ℤ). IsPlain h p r (checked i)) (to_z-of_z fits ∙ e) is

not_zero : (y : ℤ) → (of_z w32 y ≡ 0 → ⊥) → int_eq y (pos 0) ≡ false
not_zero (pos zero) ne = absurd (ne refl)
not_zero (pos (suc n)) ne = ap (λ (b : Bool). b && nat_le 0 (suc n)) (leb-suc-zero n)
not_zero (negsuc n) ne = refl

pub divided_as : (f : ℤ → ℤ → ℤ) (h : Cells) (p : Places) (r : PrimAnswer) (x y : ℤ) → (of_z w32 y ≡ 0 → ⊥) → IsPlain h p r (checked (f x y)) → IsPlain h p r (divided f x y)
divided_as f h p r x y ne is = subst (λ (e : Effect). IsPlain h p r e) (sym (cond-false (int_eq y (pos 0)) (Fails errors.DivisionByZero) (checked (f x y)) (not_zero y ne))) is

-- words of integers are read back
pub word_read : (i : ℤ) → IsSmall i → int_of (word_of i) ≡ i
word_read (pos n) s =
    cond-true (nat_lt (4 * n) 2147483648) (pos (4 * n / 4)) (negsuc ((4294967295 - 4 * n) / 4)) (lt-ltb (4 * n) 2147483648 (omega arith)) ∙ ap pos (let e : 4 * n / 4 ≡ n = omega arith in e)
word_read (negsuc n) s =
    cond-false (nat_lt (4294967296 - 4 * (n + 1)) 2147483648) (pos ((4294967296 - 4 * (n + 1)) / 4)) (negsuc ((4294967295 - (4294967296 - 4 * (n + 1))) / 4))
    (le-ltb (4294967296 - 4 * (n + 1)) 2147483648 (omega arith))
    ∙ ap negsuc (let e : (4294967295 - (4294967296 - 4 * (n + 1))) / 4 ≡ n = omega arith in e)

-- a value whose word is an integer's
pub record IsInteger (v : Value) (w : ℕ) : Type 0 where
  pub int : ℤ
  pub is : v ≡ values.Int int
  pub small : IsSmall int
  pub word : w ≡ word_of int
  pub reads : int_of w ≡ int

pub integer : (h : Cells) (p : Places) (v : Value) (w : ℕ) → AreTagged p → IsValue h p v w → w % 4 ≡ 0 → IsInteger v w
integer h p (values.Int i) w tagged value aligned = record { int = i; is = refl; small = value.0; word = value.1; reads = ap int_of value.1 ∙ word_read i value.0 }
integer h p (values.Object n) w tagged value aligned = let one = tagged n w value in absurd (omega arith)
integer h p (values.Block body maker) w tagged value aligned = let one = value.tagged in absurd (omega arith)

pub integers_read : (f : ℤ → ℤ → Effect) (h : Cells) (p : Places) (r : PrimAnswer) (v u : Value) (a b : ℕ) → IsInteger v a → IsInteger u b
    → IsPlain h p r (f (int_of a) (int_of b)) → IsPlain h p r (of_integers f v (u ∷ []))
integers_read f h p r v u a b x y is =
    let read : IsPlain h p r (f x.int y.int) = subst (λ (e : Effect). IsPlain h p r e) (λ i. f (x.reads i) (y.reads i)) is in
    subst (λ (e : Effect). IsPlain h p r e) (λ i. of_integers f (sym x.is i) (sym y.is i ∷ [])) read

-- other values are refused
pub integers_refused : (f : ℤ → ℤ → Effect) (h : Cells) (p : Places) (v u : Value) (a b : ℕ) → IsValue h p v a → IsValue h p u b → (a % 4 ≡ 0 → b % 4 ≡ 0 → ⊥)
    → of_integers f v (u ∷ []) ≡ Fails errors.BadType
integers_refused f h p (values.Int i) (values.Int j) a b x y no_ints =
    absurd (no_ints (ap (λ z. z % 4) x.1 ∙ integer_aligned i x.0) (ap (λ z. z % 4) y.1 ∙ integer_aligned j y.0))
integers_refused f h p (values.Int i) (values.Object n) a b x y no_ints = refl
integers_refused f h p (values.Int i) (values.Block body maker) a b x y no_ints = refl
integers_refused f h p (values.Object n) u a b x y no_ints = refl
integers_refused f h p (values.Block body maker) u a b x y no_ints = refl
