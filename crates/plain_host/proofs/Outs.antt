-- The arguments of a primitive in the outs.
use Rattle.std.proofs.Common.{◌≡◌, refl, ℕ, zero, suc, ◌≤◌, [], ◌∷◌, take, arith}
use Rattle.plain_words.specs.Moves.{registers_from}

pub outs_are : (regs : ℕ → ℕ) (n a b c d e : ℕ) → a ≡ regs 9 → b ≡ regs 10 → c ≡ regs 11 → d ≡ regs 12 → e ≡ regs 13 → n ≤ 5 → take n (a ∷ b ∷ c ∷ d ∷ e ∷ []) ≡ registers_from regs 9 n
outs_are regs zero a b c d e ra rb rc rd re few = refl
outs_are regs (suc zero) a b c d e ra rb rc rd re few = λ i. ra i ∷ []
outs_are regs (suc (suc zero)) a b c d e ra rb rc rd re few = λ i. ra i ∷ rb i ∷ []
outs_are regs (suc (suc (suc zero))) a b c d e ra rb rc rd re few = λ i. ra i ∷ rb i ∷ rc i ∷ []
outs_are regs (suc (suc (suc (suc zero)))) a b c d e ra rb rc rd re few = λ i. ra i ∷ rb i ∷ rc i ∷ rd i ∷ []
outs_are regs (suc (suc (suc (suc (suc zero))))) a b c d e ra rb rc rd re few = λ i. ra i ∷ rb i ∷ rc i ∷ rd i ∷ re i ∷ []
outs_are regs (suc (suc (suc (suc (suc (suc n)))))) a b c d e ra rb rc rd re few = absurd (omega (arith, few))
