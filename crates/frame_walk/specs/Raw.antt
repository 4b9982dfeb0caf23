-- Activations in words: what frames and contexts show of a running program, before it is read as a state of the source.
use Rattle.std.specs.Prelude.{◌≡◌, ◌≢◌, ℕ, ◌+◌, List, [], ◌∷◌, Some, slice_get, slice_set}
use Rattle.self_terms.specs.declared.nodes.Place.{Place}
use Rattle.self_terms.specs.declared.errors.ErrorName.{ErrorName}
use Rattle.object_maps.specs.declared.layout.Heap.{Heap}
use Rattle.object_maps.specs.Slots.{Slots}
use Rattle.sparc_store.specs.Words.{Words}
use Rattle.frame_walk.specs.Places.{Frame}

-- an activity: its frames, the youngest first; or the word of its answer; or the error that ended it
pub data Thread : Type 0 where
  Going : List Frame → Thread
  Answered : ℕ → Thread
  Failed : ErrorName → Place → Thread

-- maps, the words of the heap, its top and next number; the activities by their numbers, the current one; steps, and words of plain cost
pub record Raw : Type 0 where
  pub maps : List Slots
  pub mem : Words
  pub heap : Heap
  pub threads : List Thread
  pub current : ℕ
  pub steps : ℕ
  pub cost : ℕ

-- a step is done, and the current activity is this one
abbrev pub becomes : Raw → Thread → Raw
becomes r t = record r { threads = slice_set r.threads r.current t; steps = r.steps + 1 }

-- the frame, with these words pending, at its next node
abbrev pub moved_on : List ℕ → Frame → Frame
moved_on ws f = record f { pending = ws; next = f.next + 1 }

-- an answer goes to the next older frame
abbrev pub answered_to : List Frame → ℕ → Thread
answered_to [] w = Answered w
answered_to (caller ∷ older) w = Going (moved_on (w ∷ caller.pending) caller ∷ older)

-- the frame is that of an activity
pub record IsFrame (threads : List Thread) (f : Frame) : Type 0 where
  pub activity : ℕ
  pub frames : List Frame
  pub height : ℕ
  pub going : slice_get threads activity ≡ Some (Going frames)
  pub there : slice_get frames height ≡ Some f

-- no frame has the mark
abbrev pub IsFree : List Thread → ℕ → Type 0
IsFree threads mark = (f : Frame) → IsFrame threads f → f.mark ≢ mark
