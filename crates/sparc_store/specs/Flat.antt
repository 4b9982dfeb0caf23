-- The window file over any list of calls, beside a plain list of frames without memory.
use Rattle.std.specs.Prelude.{◌≡◌, ℕ, zero, suc, ◌<◌, ◌^◌, length, List, [], ◌∷◌, ◌++◌}
use Rattle.sparc_store.specs.Words.{Words, IsWithin}
use Rattle.sparc_store.specs.Windows.{Frame, Stack, with_reg, entered, kept, gone_back, saved, CanSave, restored, CanRestore, spilled, view_saved, flushed, CanFlush}
use Rattle.sparc_store.specs.Chain.{chain, Keeps}

-- a call of the window file; or others write memory, which becomes this
pub data Op : Type 0 where
  Save : Op
  Restore : Op
  Flush : Op
  Get : ℕ → Op
  Set : ℕ → ℕ → Op
  Write : Words → Op

-- what a call leaves
abbrev pub after : Op → Stack → Stack
after Save s = saved s
after Restore s = restored s
after Flush s = flushed s
after (Get r) s = s
after (Set r w) s = record { memory = s.memory; regs = with_reg s.regs r w; held = s.held }
after (Write memory) s = record { memory = memory; regs = s.regs; held = s.held }

abbrev pub one_less : ℕ → ℕ
one_less zero = zero
one_less (suc n) = n

-- the number of older frames behind a call
abbrev pub depth_after : Op → ℕ → ℕ
depth_after Save n = suc n
depth_after Restore n = one_less n
depth_after _ n = n

-- the registers in view, and a plain list of all older frames, the youngest first: no windows and no memory
pub record Flat : Type 0 where
  pub regs : ℕ → ℕ
  pub older : List Frame

abbrev pub gone_to : List Frame → Flat → Flat
gone_to [] p = p
gone_to (f ∷ older) p = record { regs = gone_back p.regs f; older = older }

abbrev pub flat_after : Op → Flat → Flat
flat_after Save p = record { regs = entered p.regs; older = kept p.regs ∷ p.older }
flat_after Restore p = gone_to p.older p
flat_after Flush p = p
flat_after (Get r) p = p
flat_after (Set r w) p = record { regs = with_reg p.regs r w; older = p.older }
flat_after (Write memory) p = p

-- what a call answers
abbrev pub told : Op → (ℕ → ℕ) → List ℕ
told (Get r) regs = regs r ∷ []
told _ regs = []

-- the answers of a list of calls
unfoldable pub answers : List Op → Stack → List ℕ
answers [] s = []
answers (op ∷ ops) s = told op s.regs ++ answers ops (after op s)

unfoldable pub flat_answers : List Op → Flat → List ℕ
flat_answers [] p = []
flat_answers (op ∷ ops) p = told op p.regs ++ flat_answers ops (flat_after op p)

-- a flush writes over no frame that is saved, those among them that it has just saved itself
unfoldable pub KeepsFlush : ℕ → ℕ → Stack → Type 0
KeepsFlush zero n s = Keeps n s (view_saved s).memory
KeepsFlush (suc k) n s = Keeps n s (spilled s).memory × KeepsFlush k n (spilled s)

-- The condition of a call with n older frames: its own; there is a frame to go back to; the saved words of a frame that isn't held
-- aren't written over; and register 30 isn't changed while it names such a frame.
abbrev pub May : Op → ℕ → Stack → Type 0
May Save n s = CanSave s × Keeps n s (saved s).memory
May Restore n s = CanRestore s × (0 < n)
May Flush n s = CanFlush s × KeepsFlush (length s.held) n s
May (Get r) n s = r < 32
May (Set r w) n s = (r < 32) × (w < 2 ^ 32) × (r ≡ 30 → s.held ≡ [] → 0 < n → w ≡ s.regs 30)
May (Write memory) n s = IsWithin memory × Keeps n s memory

-- each of these calls meets its condition
unfoldable pub AllMay : List Op → ℕ → Stack → Type 0
AllMay [] n s = Unit {0}
AllMay (op ∷ ops) n s = May op n s × AllMay ops (depth_after op n) (after op s)

-- what a window file with n older frames stands for
abbrev pub flat_of : ℕ → Stack → Flat
flat_of n s = record { regs = s.regs; older = chain n s }
