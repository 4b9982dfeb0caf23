-- An activity of a method whose activations have contexts begins.
use Rattle.std.specs.Prelude.{◌≡◌, ℕ, ◌+◌, ◌-◌, ◌*◌, ◌<◌, true, List, [], ◌∷◌, ◌++◌, length, Some, slice_get}
use Rattle.self_terms.specs.declared.values.BodyId.{BodyId}
use Rattle.sparc_machine.specs.State.{MachineState, put}
use Rattle.source_model.specs.Soundness.{body_in}
use Rattle.source_model.specs.State.{State}
use Rattle.raw_steps.specs.Stands.{Sense}
use Rattle.plain_words.specs.Moves.{with_words}
use Rattle.plain_words.specs.Units.{frame_words, initial_words, entry_code, numbered, owns_context}
use Rattle.plain_runs.specs.Host.{Host}
use Rattle.plain_runs.specs.declared.status.Status.TheVariants.{Waiting}
use Rattle.plain_runs.specs.Units.{HasUnit}
use Rattle.plain_runs.specs.Services.{parked, filled, in_first_frame}
use Rattle.plain_runs.specs.Sound.{IsHosted, entry_frame}
use Rattle.plain_runs.specs.Course.{AllRun}
use Rattle.plain_steps.specs.Steps.{StandsFor}
use Rattle.plain_begins.specs.Begins.{CanPark, Began}
use Rattle.plain_evaluates.specs.Evaluates.{HasSpace}

-- the words of the context of a method's activation, in a frame, for a receiver
abbrev pub first_context : Host → ℕ → ℕ → ℕ → List ℕ
first_context h b place receiver = numbered h.references.contexts ∷ 0 ∷ place ∷ receiver ∷ initial_words h.references (body_in h.bodies b)

-- a context of so many words at the heap's top is the own one of the frame in view, and is counted
abbrev pub with_context : ℕ → MachineState → MachineState
with_context words m = put (put (put m 17 (m.regs 6 + 1)) 6 (m.regs 6 + 4 * words)) 3 (m.regs 3 + words)

-- An activity of a body without arguments, whose activations have contexts, begins as `begins` says, but that the context is put at the heap's top,
-- and the frame keeps the holder alone.
abbrev pub begins_with_context : ℕ → ℕ → ℕ → ℕ → Host → Host
begins_with_context b at receiver holder h =
    let p = parked h in
    let x = body_in h.bodies b in
    let k = length h.statuses in
    let place = entry_frame k - 4 * frame_words x in
    let first = at + 4 * length (entry_code h.references x) in
    let cell = first_context h b place receiver in
    let m = record p.machine { memory = filled (with_words p.machine.memory (p.machine.regs 6) cell) place holder [] } in
    record p { machine = record (with_context (length cell) (in_first_frame place (entry_frame k) receiver m)) { pc = first; npc = first + 4 }; statuses = p.statuses ++ Waiting 0 0 0 ∷ []; current = k }

-- Where the current activity can be parked, a stack is left, and there is room for the context, the host so begins an activity of a method of an
-- object, for the lobby, whose unit stands at an address, and which has nodes, no arguments and a block literal of its own.
abbrev pub ActivitiesBegin : Type 0
ActivitiesBegin = (z : Sense) (h : Host) (s : State) → StandsFor z h s → IsHosted h → AllRun h → CanPark h → length h.statuses < 4
    → (o : ℕ) (c : BodyId) (holder lobby at : ℕ) → slice_get z.places.objects o ≡ Some holder → slice_get z.places.objects 0 ≡ Some lobby → HasUnit h c.0 at
    → owns_context (body_in h.bodies c.0) ≡ true → HasSpace h c.0 → length (body_in h.bodies c.0).arguments ≡ 0 → 0 < length (body_in h.bodies c.0).nodes
    → Began z h (begins_with_context c.0 at lobby holder h) s o c
