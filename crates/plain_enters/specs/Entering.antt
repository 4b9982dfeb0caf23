-- What the frame of an entered method shows, and the room for it.
use Rattle.std.specs.Prelude.{◌≡◌, ℕ, ◌+◌, ◌-◌, ◌*◌, ◌<◌, ◌≤◌, List, [], length}
use Rattle.sparc_store.specs.Words.{Words, HasFrame, IsWithin}
use Rattle.sparc_store.specs.Chain.{ChangedIn}
use Rattle.source_model.specs.Soundness.{body_in}
use Rattle.frame_walk.specs.Places.{shown, plain_descriptor}
use Rattle.plain_words.specs.Units.{frame_words}
use Rattle.plain_runs.specs.Host.{Host}
use Rattle.plain_runs.specs.Services.{filled}
use Rattle.plain_runs.specs.Sound.{InFrame}

-- The frame shows these, over any window, and memory has changed in it alone.
abbrev pub FilledShows : Type 0
FilledShows = (memory : Words) (window : ℕ → ℕ) (place words holder body : ℕ) (ws : List ℕ) → IsWithin memory → HasFrame place words → 27 + length ws ≤ words
    → (shown (filled memory place holder ws) window place (plain_descriptor body 0 (length ws) 0)
    ≡ record { body = body; next = 0; receiver = window 8; holder = holder; outer = window 0; context = window 1; mark = place; locals = ws; pending = [] })
    × ChangedIn place (4 * words) memory (filled memory place holder ws) × IsWithin (filled memory place holder ws)

-- no body's frame has more words
abbrev pub largest_frame : ℕ
largest_frame = 330

-- Where no body's frame is larger, there is room for a frame of each below any that is in view: 4,096 activations fit in a stack.
abbrev pub HasRoom : Type 0
HasRoom = (h : Host) (b c : ℕ) → InFrame h b → h.current < 4 → ((d : ℕ) → frame_words (body_in h.bodies d) ≤ largest_frame)
    → HasFrame (h.machine.regs 14 - 4 * frame_words (body_in h.bodies c)) (frame_words (body_in h.bodies c))
