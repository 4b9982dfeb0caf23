-- What the frames of a stack show, some of them held by windows and the others in memory.
--
-- SPARC Architecture Manual Version 8, chapter 7 (window_overflow, window_underflow) and appendix D (the memory stack): a frame begins at its
-- %sp with 16 words, in which its window is saved. Descriptors name nothing in these 64 bytes.
use Rattle.std.specs.Prelude.{◌≡◌, ◌≢◌, ℕ, ◌+◌, ◌/◌, List, []}
use Rattle.sparc_store.specs.Words.{Words, word_at}
use Rattle.sparc_store.specs.Windows.{Stack, kept, saved_at, frame_before, but_first}
use Rattle.frame_walk.specs.Places.{Descriptor, Frame}
use Rattle.frame_walk.specs.Walk.{activations, AreLaid, IsFrameOf}

-- what so many frames show, the one in view first, which goes on at pc
abbrev pub view_shows : (ℕ → Descriptor) → ℕ → ℕ → Stack → List Frame
view_shows descs n pc s = activations descs s.memory n (s.regs 14) (kept s.regs) pc s.held

-- what so many frames show behind the one in view: the first begins at %fp, and goes on 8 bytes behind the address in %i7
abbrev pub callers_show : (ℕ → Descriptor) → ℕ → Stack → List Frame
callers_show descs n s = activations descs s.memory n (s.regs 30) (frame_before s.memory (s.regs 30) s.held) (s.regs 31 + 8) (but_first s.held)

-- what so many frames show that stand in memory, the first at an address
abbrev pub saved_show : (ℕ → Descriptor) → ℕ → ℕ → ℕ → Words → List Frame
saved_show descs n at pc memory = activations descs memory n at (saved_at memory at) pc []

-- These frames are laid up to a frame of entry, with room for what their descriptors name.
abbrev pub IsViewLaid : (ℕ → Descriptor) → ℕ → ℕ → ℕ → ℕ → Stack → Type 0
IsViewLaid descs entry end n pc s = AreLaid (λ q. IsFrameOf (descs q)) entry end s.memory n (s.regs 14) (kept s.regs) pc s.held

abbrev pub AreCallersLaid : (ℕ → Descriptor) → ℕ → ℕ → ℕ → Stack → Type 0
AreCallersLaid descs entry end n s =
    AreLaid (λ q. IsFrameOf (descs q)) entry end s.memory n (s.regs 30) (frame_before s.memory (s.regs 30) s.held) (s.regs 31 + 8) (but_first s.held)

abbrev pub AreSavedLaid : (ℕ → Descriptor) → ℕ → ℕ → ℕ → ℕ → ℕ → Words → Type 0
AreSavedLaid descs entry end n at pc memory = AreLaid (λ q. IsFrameOf (descs q)) entry end memory n at (saved_at memory at) pc []

-- Memory has changed in the stacks alone: code, heap and control are the same.
pub record OnlyStacks (old new : Words) : Type 0 where
  pub code : new.code ≡ old.code
  pub heap : new.heap ≡ old.heap
  pub control : new.control ≡ old.control

-- It has changed in the stack of one frame of entry alone: stacks stand 0x02000000 bytes apart.
abbrev pub OnlyStackOf : ℕ → Words → Words → Type 0
OnlyStackOf entry old new = (b : ℕ) → b / 0x0200_0000 ≢ entry / 0x0200_0000 → word_at new b ≡ word_at old b
