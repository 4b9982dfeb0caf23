use Rattle.std.proofs.Common.{◌≡◌, ℕ, ◌<◌, ◌^◌, ◌∙◌, List, length, Some, decimal, sym, subst, ap, arith}
use Rattle.std.proofs.lemmas.Fmt.{length-decimal-le}
use Rattle.self_debugger.specs.Numbers.{number}
use Rattle.self_debugger.proofs.Decimals.{IsPlain, plain_parts, plain_test, plain_decimal, number_decimal, decimal_of}
use Rattle.self_debugger.proofs.numbers.plain_number.Goals as goal

plain : (t : List ℕ) (n : ℕ) → t ≡ decimal n → n < 2 ^ 64 → IsPlain t
plain t n e small = subst IsPlain (sym e) (plain_decimal n small)

is_number : (t : List ℕ) (n : ℕ) → t ≡ decimal n → n < 2 ^ 64 → number t ≡ n
is_number t n e small = ap number e ∙ number_decimal n small

pub returns-then-not-is_plain-clause-only : goal.returns-then-not-is_plain-clause-only
returns-then-not-is_plain-clause-only c = λ n e le. let p = plain_test c.args.text.now (plain c.args.text.now n e (omega (arith, c.ranges.most.fits))) in absurd (cc)

pub returns-then-text-gt10-clause-only : goal.returns-then-text-gt10-clause-only
returns-then-text-gt10-clause-only c = λ n e le. absurd (omega (arith, c.ranges.most.fits, ap length e, length-decimal-le 10 n (omega arith) (omega (arith, c.ranges.most.fits)) (omega (arith, c.ranges.most.fits))))

pub returns-then-number-most-clause-only : goal.returns-then-number-most-clause-only
returns-then-number-most-clause-only c = λ n e le. absurd (omega (arith, is_number c.args.text.now n e (omega (arith, c.ranges.most.fits)), c.number-number.ensures))

pub returns-clause-found : goal.returns-clause-found
returns-clause-found c =
    (decimal_of c.args.text.now (plain_parts c.args.text.now (sym c.is_plain.ensures ∙ c.if-not-is_plain.false)) c.if-text-gt10.false ∙ ap decimal (sym c.number-number.ensures), c.if-number-most.false)

pub returns-clause-only : goal.returns-clause-only
returns-clause-only c = λ n e le. ap Some (c.number-number.ensures ∙ is_number c.args.text.now n e (omega (arith, c.ranges.most.fits)))
