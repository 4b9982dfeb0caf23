-- What a step leaves as it is: what lookups find.
use Rattle.std.specs.Prelude.{◌≡◌, ℕ, ◌<◌, ◌≤◌, nat_lt, Bool, true, false, List, ◌∷◌, length, slice_get, Option, Some, pos}
use Rattle.self_terms.specs.declared.values.Value.TheVariants as values
use Rattle.source_model.specs.Objects.{Content, Constant, Assignable, Assignment, Parent, Method}
use Rattle.source_model.specs.State.{Activation, Activity, Running, State, Reached}
use Rattle.source_model.specs.Messages.{Met, Missing, Holds, meets, meets_above, meets_through}
use Rattle.source_model.specs.Script.{Command, Edit, command, until, lacks}
use Rattle.source_model.specs.Step.{step, run}
use Rattle.source_model.specs.Formed.{IsWellFormed}

-- what a slot holds, without what assignment changes
abbrev pub emptied : Content → Content
emptied (Assignable v) = Assignable (values.Int (pos 0))
emptied (Constant v) = Constant v
emptied Assignment = Assignment
emptied (Parent o) = Parent o
emptied (Method b) = Method b

abbrev pub without_data : Met → Met
without_data (Missing e) = Missing e
without_data (Holds o c) = Holds o (emptied c)

-- no object goes; and from one that is there the same slot of the same holder is found, in a send, a resend and a directed
-- resend, where the data of an assignable slot may differ
pub record LookupsLast (s t : State) : Type 0 where
  pub there : length s.things ≤ length t.things
  pub sent : (o name : ℕ) → o < length s.things → without_data (meets t (values.Object o) name) ≡ without_data (meets s (values.Object o) name)
  pub above : (holder name : ℕ) → holder < length s.things → without_data (meets_above t holder name) ≡ without_data (meets_above s holder name)
  pub through : (holder parent name : ℕ) → holder < length s.things → without_data (meets_through t holder parent name) ≡ without_data (meets_through s holder parent name)

abbrev pub StepsLast : Type 0
StepsLast = (s : State) → IsWellFormed s → LookupsLast s (step s).state

abbrev pub RunsLast : Type 0
RunsLast = (n : ℕ) (r : Reached) → IsWellFormed r.state → LookupsLast r.state (run n r).state

abbrev pub is_edit : Command → Bool
is_edit (Edit path text) = true
is_edit _ = false

-- edits alone change lookups
abbrev pub CommandsLast : Type 0
CommandsLast = (c : Command) (stop : ℕ) (r : Reached) → IsWellFormed r.state → is_edit c ≡ false → LookupsLast r.state (command c stop r).state

-- The end of `finish`, by the number of activations.

-- whether the current activity has fewer activations than this number, or has ended
abbrev pub fewer_in : ℕ → Option Activity → Bool
fewer_in n (Some (Running all)) = nat_lt (length all) n
fewer_in n _ = true

abbrev pub fewer : ℕ → State → Bool
fewer n s = fewer_in n (slice_get s.activities s.current)

-- the youngest activation is gone as soon as there are fewer activations
abbrev pub FinishesByCount : Type 0
FinishesByCount =
    (n : ℕ) (r : Reached) (a : Activation) (older : List Activation) → IsWellFormed r.state → slice_get r.state.activities r.state.current ≡ Some (Running (a ∷ older))
    → until (lacks a.number) n r ≡ until (fewer (length (a ∷ older))) n r
