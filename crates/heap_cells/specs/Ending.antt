-- How the contexts of activations show that these have ended.
use Rattle.std.specs.Prelude.{◌≡◌, ◌≢◌, ℕ, ◌+◌, List, [], ◌∷◌, Option, Some, None, slice_get, slice_set}
use Rattle.sparc_store.specs.Words.{Words, Stored}
use Rattle.heap_cells.specs.Source.{Made, Plain as without, Ended, Live}
use Rattle.heap_cells.specs.Standing.{Places}

-- the frame mark of a context becomes 0; an activation without a context, whose reference is 0, leaves the words
abbrev pub IsCleared : Words → ℕ → Words → Type 0
IsCleared mem context new = (context ≡ 0 → new ≡ mem) × (context ≢ 0 → Stored mem new (context + 7) 0)

-- those of several contexts, one after the other
abbrev pub AreCleared : Words → List ℕ → Words → Type 0
AreCleared mem [] new = new ≡ mem
AreCleared mem (w ∷ ws) new = (between : Words) × (IsCleared mem w between × AreCleared between ws new)

-- what is known of the activation of a number, once it has ended
abbrev pub ended_at : List Made → ℕ → Option Made → List Made
ended_at made y (Some (Live o)) = slice_set made y Ended
ended_at made y _ = made

-- the activations of these numbers have ended
abbrev pub ended_all : List Made → List ℕ → List Made
ended_all made [] = made
ended_all made (y ∷ ys) = ended_all (ended_at made y (slice_get made y)) ys

-- it lives, or has no context
abbrev pub CanEnd : Option Made → Type 0
CanEnd None = ⊥
CanEnd (Some without) = Unit {0}
CanEnd (Some Ended) = ⊥
CanEnd (Some (Live o)) = Unit {0}

-- These are the contexts of the activations of these numbers, each of which lives, or has none, when it is its turn.
abbrev pub AreEnding : Places → List Made → List ℕ → List ℕ → Type 0
AreEnding p made [] [] = Unit {0}
AreEnding p made (y ∷ ys) (w ∷ ws) = (slice_get p.contexts y ≡ Some w) × CanEnd (slice_get made y) × AreEnding p (ended_at made y (slice_get made y)) ys ws
AreEnding p made _ _ = ⊥
