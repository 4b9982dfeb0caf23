-- Words that are put one after the other.
use Rattle.std.proofs.Common.{◌≡◌, ℕ, zero, suc, ◌+◌, ◌*◌, ◌≤◌, refl, ◌∙◌, ap, sym, arith, drop}
use Rattle.std.specs.Prelude.{List, [], ◌∷◌, Some, length, slice_get}
use Rattle.sparc_store.specs.Words.{Words, with_word}
use Rattle.sparc_machine.specs.State.{MachineState}
use Rattle.plain_words.specs.Moves.{with_words}

-- one word more, and what is left behind it
pub words_next : (memory : Words) (at to next j w : ℕ) (ws : List ℕ) → slice_get ws j ≡ Some w → to ≡ at + 4 * j → next ≡ at + 4 * (j + 1)
    → with_words (with_word memory to w) next (drop (suc j) ws) ≡ with_words memory to (drop j ws)
words_next memory at to next j w [] e et en = cc
words_next memory at to next zero w (x ∷ xs) e et en = let same : x ≡ w = cc in rw same (ap (λ a. with_words (with_word memory to w) a xs) (omega (arith, et, en)))
words_next memory at to next (suc j) w (x ∷ xs) e et en = words_next memory (at + 4) to next j w xs e (omega (arith, et)) (omega (arith, en))

-- nothing is left
pub words_done : (memory : Words) (at j : ℕ) (ws : List ℕ) → length ws ≤ j → with_words memory at (drop j ws) ≡ memory
words_done memory at zero [] e = refl
words_done memory at (suc j) [] e = refl
words_done memory at zero (w ∷ ws) e = absurd (omega (arith, e))
words_done memory at (suc j) (w ∷ ws) e = words_done memory at j ws (omega (arith, e))

-- a machine with another memory, and that with another
pub same_but_memory : (a b c : MachineState) (memory : Words) → b ≡ record a { memory = b.memory } → c ≡ record b { memory = memory } → c ≡ record a { memory = c.memory }
same_but_memory a b c memory e f = f ∙ ap (λ (m : MachineState). record m { memory = memory }) e ∙ ap (λ (w : Words). record a { memory = w }) (sym (ap (λ (m : MachineState). m.memory) f))
