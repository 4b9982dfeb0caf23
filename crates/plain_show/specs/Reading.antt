-- Frames that a host reads from memory.
use Rattle.std.specs.Prelude.{ℕ, ◌^◌, ◌<◌, ◌≤◌, [], length}
use Rattle.sparc_store.specs.Windows.{saved_at}
use Rattle.source_model.specs.Soundness.{body_in}
use Rattle.frame_walk.specs.Walk.{AreLaid, IsFrameOf}
use Rattle.plain_words.specs.Translating.{CanTranslate}
use Rattle.plain_runs.specs.Host.{Host, point_at, descriptor_at}

-- What a frame is asked that is read: it has room for what its descriptor names; the address where its code goes on is a word; and that says
-- a body that plain code runs, and few enough pending values.
pub record IsReadable (h : Host) (pc sp fp : ℕ) : Type 0 where
  pub frame : IsFrameOf (descriptor_at h pc) sp fp
  pub low : pc < 2 ^ 32
  pub given : 0 < (point_at h pc).body
  pub known : (point_at h pc).body ≤ length h.bodies
  pub translates : CanTranslate (body_in h.bodies (point_at h pc).body)
  pub pending : (point_at h pc).pending ≤ 79

-- So many frames stand in memory, one above the other, the first of which begins at sp and goes on at pc.
pub record CanRead (h : Host) (sp pc count : ℕ) : Type 0 where
  pub entry : ℕ
  pub end : ℕ
  pub low : end < 2 ^ 32
  pub laid : AreLaid (IsReadable h) entry end h.machine.memory count sp (saved_at h.machine.memory sp) pc []
