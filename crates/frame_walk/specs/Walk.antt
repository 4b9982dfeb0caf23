-- The activations of a stack, read off its frames.
--
-- A frame is told by where it begins, by its window, and by where its code goes on. The next older frame begins at the window's number
-- 14 (%fp), and goes on 8 bytes behind the address in its number 15 (%i7). It is held, or stands in memory where it begins.
use Rattle.std.specs.Prelude.{◌≡◌, ℕ, zero, suc, ◌+◌, ◌*◌, ◌/◌, ◌%◌, ◌<◌, ◌≤◌, List, [], ◌∷◌}
use Rattle.sparc_store.specs.Words.{Words, word_at, HasFrame}
use Rattle.sparc_store.specs.Windows.{Frame as Window, frame_before, but_first}
use Rattle.frame_walk.specs.Places.{Place, Register, Slot, Constant, Descriptor, Frame, shown}

-- so many frames, the youngest first
unfoldable pub activations : (ℕ → Descriptor) → Words → ℕ → ℕ → Window → ℕ → List Window → List Frame
activations descs memory zero sp window pc held = []
activations descs memory (suc n) sp window pc held =
    shown memory window sp (descs pc) ∷ activations descs memory n (window 14) (frame_before memory (window 14) held) (window 15 + 8) (but_first held)

-- a place of a frame that lies among so many bytes of it, above its saved window
abbrev pub IsInside : ℕ → Place → Type 0
IsInside bytes (Register r) = Unit {0}
IsInside bytes (Slot offset) = (64 ≤ offset) × (offset + 4 ≤ bytes) × (offset % 4 ≡ 0)
IsInside bytes (Constant word) = Unit {0}

abbrev pub AreInside : ℕ → List Place → Type 0
AreInside bytes [] = Unit {0}
AreInside bytes (p ∷ ps) = IsInside bytes p × AreInside bytes ps

-- each place that a descriptor names lies there
pub record Fits (bytes : ℕ) (d : Descriptor) : Type 0 where
  pub receiver : IsInside bytes d.receiver
  pub holder : IsInside bytes d.holder
  pub outer : IsInside bytes d.outer
  pub context : IsInside bytes d.context
  pub locals : AreInside bytes d.locals
  pub pending : AreInside bytes d.pending

-- a frame from one address of a stack to another, with room for what its descriptor names
pub record IsFrameOf (d : Descriptor) (sp fp : ℕ) : Type 0 where
  pub words : ℕ
  pub ends : fp ≡ sp + 4 * words
  pub room : 16 ≤ words
  pub place : HasFrame sp words
  pub fits : Fits (4 * words) d

-- what is asked of a frame: of the address where its code goes on, of where it begins, and of where the next older one begins
abbrev pub Asked : Type 1
Asked = ℕ → ℕ → ℕ → Type 0

-- So many frames, the first of which begins at sp, are as it is asked, and the oldest ends where the frame of entry begins, whose code goes
-- on at `end`.
unfoldable pub AreLaid : Asked → ℕ → ℕ → Words → ℕ → ℕ → Window → ℕ → List Window → Type 0
AreLaid asked entry end memory zero sp window pc held = (sp ≡ entry) × (pc ≡ end)
AreLaid asked entry end memory (suc n) sp window pc held =
    asked pc sp (window 14) × AreLaid asked entry end memory n (window 14) (frame_before memory (window 14) held) (window 15 + 8) (but_first held)

-- that is so only of frames that have room for what these descriptors name
abbrev pub Frames : (ℕ → Descriptor) → Asked → Type 0
Frames descs asked = (pc sp fp : ℕ) → asked pc sp fp → IsFrameOf (descs pc) sp fp

-- another memory has the same words from one address up to another
abbrev pub SameBetween : ℕ → ℕ → Words → Words → Type 0
SameBetween from to old new = (b : ℕ) → from ≤ b → b < to → word_at new b ≡ word_at old b
