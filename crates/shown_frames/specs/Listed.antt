-- Words of memory that stand one after the other.
use Rattle.std.specs.Prelude.{ℕ, zero, suc, ◌+◌, ◌*◌, List, [], ◌∷◌}
use Rattle.sparc_store.specs.Words.{Words, word_at}

-- so many from an address on, in their order
abbrev pub words_up : Words → ℕ → ℕ → List ℕ
words_up memory at zero = []
words_up memory at (suc n) = word_at memory at ∷ words_up memory (at + 4) n

-- the last of them first
abbrev pub words_down : Words → ℕ → ℕ → List ℕ
words_down memory at zero = []
words_down memory at (suc n) = word_at memory (at + 4 * n) ∷ words_down memory at n
