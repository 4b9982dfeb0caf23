-- How the current activity stands.
use Rattle.std.specs.Prelude.{◌≡◌, ◌⊎◌, ℕ, List, Some, None, slice_get}
use Rattle.self_terms.specs.declared.errors.ErrorName.{ErrorName}
use Rattle.self_terms.specs.declared.nodes.Place.{Place}
use Rattle.self_terms.specs.declared.values.Value.{Value}
use Rattle.source_model.specs.declared.objects.Core.{Core}
use Rattle.source_model.specs.Soundness.{body_in}
use Rattle.source_model.specs.State.{Activation, Running, Answered, Failed, State}
use Rattle.source_model.specs.Step.{place_at}
use Rattle.plain_runs.specs.Host.{Host, point_at}
use Rattle.plain_runs.specs.declared.status.Status.TheVariants.{Waiting}
use Rattle.plain_turns.specs.Resting.{Rests}
use Rattle.run_lines.specs.declared.current.Standing.{Standing}
use Rattle.run_lines.specs.declared.current.Standing.TheVariants as standings

-- the current activity of the source: there is none; it runs; or it has answered, or an error ended it
abbrev pub IsStanding : State → Standing → Type 0
IsStanding s standings.Nobody = slice_get s.activities s.current ≡ None
IsStanding s standings.Goes = (all : List Activation) × (slice_get s.activities s.current ≡ Some (Running all))
IsStanding s standings.Ended = ((v : Value) × (slice_get s.activities s.current ≡ Some (Answered v))) ⊎ ((e : ErrorName) × (p : Place) × (slice_get s.activities s.current ≡ Some (Failed e p)))

-- that of the host goes on
abbrev pub GoesOn : Host → Type 0
GoesOn h = (sp : ℕ) × (pc : ℕ) × (known : ℕ) × (slice_get h.statuses h.current ≡ Some (Waiting sp pc known))

-- machine and host stand for some state, between commands; and for one that has this core
abbrev pub IsResting : Host → Type 0
IsResting h = (s : State) × Rests h s

abbrev pub RestsWith : Host → Core → Type 0
RestsWith h core = (s : State) × Rests h s × (s.core ≡ core)

-- the place of the node at whose words the machine stands
abbrev pub next_place : Host → Place
next_place h = let p = point_at h h.machine.pc in place_at (body_in h.bodies p.body) p.node
