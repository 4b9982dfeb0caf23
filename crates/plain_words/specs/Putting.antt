-- Instructions are put into memory one after the other.
use Rattle.std.specs.Prelude.{◌≡◌, ◌⊎◌, ℕ, ◌+◌, ◌*◌, ◌<◌, ◌≤◌, List, Some, slice_get}
use Rattle.sparc_insn.specs.declared.insn.Insn.{Insn}
use Rattle.sparc_insn.specs.Words.{IsInsn}
use Rattle.sparc_store.specs.Words.{Words, word_at}

-- all are instructions of the table
pub record AreInsns (code : List Insn) : Type 0 where
  pub each : (j : ℕ) (i : Insn) → slice_get code j ≡ Some i → IsInsn i

-- the words outside n words from an address on are as they were
pub record Apart (old new : Words) (at n : ℕ) : Type 0 where
  pub others : (b : ℕ) → (b < at) ⊎ (at + 4 * n ≤ b) → word_at new b ≡ word_at old b
