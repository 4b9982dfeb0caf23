-- The frames of a stack whose windows were flushed, and the frame marks of contexts.
--
-- Each frame has its window saved where it begins: there %l0, the maker's context, has number 0, %l1, the own context, number 1, %fp number 14
-- and %i7 number 15.
use Rattle.std.specs.Prelude.{◌≡◌, ◌≢◌, ℕ, zero, suc, ◌+◌, ◌^◌, ◌<◌, nat_eq, if◌then◌else◌, List, [], ◌∷◌, Some, slice_get}
use Rattle.sparc_store.specs.Words.{Words, with_word, HasWord}
use Rattle.sparc_store.specs.Windows.{saved_at, IsPlace}

-- where the frame begins that is so many frames older than the one at an address
abbrev pub frame_behind : Words → ℕ → ℕ → ℕ
frame_behind memory zero at = at
frame_behind memory (suc n) at = frame_behind memory n (saved_at memory at 14)

-- the own contexts of so many frames, the youngest at an address; 0 where one has none
abbrev pub contexts_at : Words → ℕ → ℕ → List ℕ
contexts_at memory zero at = []
contexts_at memory (suc n) at = saved_at memory at 1 ∷ contexts_at memory n (saved_at memory at 14)

-- how many of so many frames, the youngest at an address, end with that of a home method, where the context of the maker of a younger
-- activation, or the maker's of that, is this
abbrev pub ending_at : Words → ℕ → ℕ → ℕ → ℕ
ending_at memory zero at context = 0
ending_at memory (suc n) at context =
    if nat_eq context 0 then 0 else 1 + ending_at memory n (saved_at memory at 14) (if nat_eq (saved_at memory at 1) context then saved_at memory at 0 else context)

-- So many frames, the youngest at an address, may be walked: each begins in a stack; each context has its mark below the stacks; and each frame
-- but the oldest goes back to an address that has others behind it.
pub record AreWalked (memory : Words) (n at : ℕ) : Type 0 where
  pub places : (k : ℕ) → k < n → IsPlace (frame_behind memory k at)
  pub marks : (k context : ℕ) → slice_get (contexts_at memory n at) k ≡ Some context → context ≢ 0 → HasWord (context + 7) × (context + 7 < 0x40000000)
  pub returns : (k : ℕ) → suc k < n → saved_at memory (frame_behind memory k at) 15 + 12 < 2 ^ 32

-- the frame mark of a context becomes 0; a 0 stands for an activation without a context
abbrev pub with_cleared : Words → ℕ → Words
with_cleared memory context = if nat_eq context 0 then memory else with_word memory (context + 7) 0

-- those of several contexts, one after the other
abbrev pub with_all_cleared : Words → List ℕ → Words
with_all_cleared memory [] = memory
with_all_cleared memory (w ∷ ws) = with_all_cleared (with_cleared memory w) ws
