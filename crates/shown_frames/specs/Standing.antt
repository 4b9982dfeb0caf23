-- Where frames in words stand for activations, they show them as the source does.
use Rattle.std.specs.Prelude.{◌≡◌, ℕ, ◌+◌, ◌<◌, ◌≤◌, List, [], Some, slice_get}
use Rattle.self_terms.specs.declared.values.Value.{Value}
use Rattle.sparc_store.specs.Words.{Words, word_at}
use Rattle.source_model.specs.Formed.{IsWellFormed}
use Rattle.source_model.specs.State.{Activation, Running, State}
use Rattle.heap_cells.specs.Standing.{IsValue}
use Rattle.frame_walk.specs.Places.{Frame}
use Rattle.frame_walk.specs.Raw.{Raw, Going}
use Rattle.raw_steps.specs.Stands.{Sense, Stands}
use Rattle.session_text.specs.Values.{as_shown}
use Rattle.session_text.specs.Frames.{shown_of}
use Rattle.shown_frames.specs.Showing.{value_shown, acts_shown}

-- a memory has the words of the heap where that stands
abbrev pub HasHeap : Words → Words → Type 0
HasHeap memory heap = (b : ℕ) → 0x20000000 ≤ b → b < 0x20000000 + 46137344 → word_at memory b ≡ word_at heap b

-- The raw state stands for the state, and these are the activations and the frames of an activity.
pub record AreOf (z : Sense) (r : Raw) (s : State) (all : List Activation) (frames : List Frame) : Type 0 where
  pub stands : Stands z r s
  pub activity : ℕ
  pub runs : slice_get s.activities activity ≡ Some (Running all)
  pub going : slice_get r.threads activity ≡ Some (Going frames)

-- the word of a value is shown as the value is among the activations
abbrev pub ValuesShow : Type 0
ValuesShow = (z : Sense) (r : Raw) (s : State) (all : List Activation) (frames : List Frame) (memory : Words) → AreOf z r s all frames → HasHeap memory r.mem
    → (v : Value) (w : ℕ) → IsValue z.cells z.places v w → value_shown r.maps memory frames w ≡ as_shown all v

-- that of a value that no activation is beside, as the answer of an activity, is shown so with no frames
abbrev pub EndedShow : Type 0
EndedShow = (z : Sense) (r : Raw) (s : State) (memory : Words) → Stands z r s → HasHeap memory r.mem → (v : Value) (w : ℕ) → IsValue z.cells z.places v w → value_shown r.maps memory [] w ≡ as_shown [] v

-- and the frames are shown as the activations are
abbrev pub ActivationsShow : Type 0
ActivationsShow = (z : Sense) (r : Raw) (s : State) (all : List Activation) (frames : List Frame) (memory : Words) → AreOf z r s all frames → HasHeap memory r.mem → IsWellFormed s
    → acts_shown r.maps s.bodies memory frames ≡ shown_of all
