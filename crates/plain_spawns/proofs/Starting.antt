-- An activity begins in words with a context.
use Rattle.std.proofs.Common.{◌≡◌, ◌≢◌, ℕ, ◌+◌, ◌*◌, ◌%◌, ◌<◌, ◌≤◌, refl, ◌∙◌, ap, sym, subst, arith}
use Rattle.std.specs.Prelude.{true, List, [], ◌∷◌, length, Option, Some, None, slice_get, slice_set}
use Rattle.self_terms.specs.declared.values.BodyId.{BodyId}
use Rattle.self_terms.specs.declared.values.Value.TheVariants as values
use Rattle.sparc_store.specs.Words.{Words, Framed}
use Rattle.sparc_store.specs.Windows.{Frame as Window, flushed}
use Rattle.sparc_machine.specs.State.{stack_of}
use Rattle.source_model.specs.Messages.{body_of}
use Rattle.source_model.specs.Soundness.{body_in}
use Rattle.source_model.specs.State.{State}
use Rattle.heap_cells.specs.Shapes.{Context, words_of}
use Rattle.frame_walk.specs.Raw.{Raw, Thread, Going}
use Rattle.raw_steps.specs.Meeting.{HasCore}
use Rattle.raw_steps.specs.Sends.{Entry, context_frame}
use Rattle.raw_steps.specs.Stands.{Sense, Stands}
use Rattle.plain_words.specs.Moves.{with_words}
use Rattle.plain_words.specs.Units.{initial_words, numbered, owns_context}
use Rattle.plain_runs.specs.Host.{Host, raw_of, heap_words}
use Rattle.plain_runs.specs.declared.status.Status.{Status}
use Rattle.plain_runs.specs.declared.status.Status.TheVariants.{Waiting, Answered, Failed}
use Rattle.plain_runs.specs.Units.{HasUnit}
use Rattle.plain_runs.specs.Services.{parked_by}
use Rattle.plain_runs.specs.Sound.{IsHosted}
use Rattle.plain_runs.specs.Course.{AllRun}
use Rattle.plain_steps.specs.Steps.{NamesSums, StandsFor}
use Rattle.plain_begins.specs.Begins.{AtPoll, Idle, Began}
use Rattle.plain_begins.proofs.Parking.{Parks, idle_parks, running_parks, flushed_registers, flushed_memory, parked_status}
use Rattle.plain_begins.proofs.Hosting.{lain}
use Rattle.plain_begins.proofs.Free.{free_behind}
use Rattle.plain_evaluates.specs.Evaluates.{HasSpace}
use Rattle.plain_evaluates.proofs.Bounds.{initial_long}
use Rattle.plain_evaluates.proofs.Entered.{wants_one}
use Rattle.plain_evaluates.proofs.Heaped.{framed_in_heap}
use Rattle.plain_evaluates.proofs.Initials.{initials_are}
use Rattle.plain_spawns.specs.Spawns.{first_context, ActivitiesBegin}
use Rattle.plain_spawns.proofs.Filled.{first_place, there_first, stack_first}
use Rattle.plain_spawns.proofs.Hosting.{begins_from, goal_kept, left_kept, hosted_then, first_node, runs_then, first_entry, raw_then}
use Rattle.plain_spawns.proofs.Resting.{rests_on}
use Rattle.plain_spawns.proofs.Spawning.{opened, RawBegun, raw_begins}

-- where all frames stand in memory
starts : (z : Sense) (h : Host) (s : State) → StandsFor z h s → IsHosted h → AllRun h → (memory : Words) (older : List Window) (ss : List Status) → Parks h memory ss → length h.statuses < 4
    → (o : ℕ) (c : BodyId) (holder lobby at : ℕ) → slice_get z.places.objects o ≡ Some holder → slice_get z.places.objects 0 ≡ Some lobby → HasUnit h c.0 at
    → owns_context (body_in h.bodies c.0) ≡ true → HasSpace h c.0 → length (body_in h.bodies c.0).arguments ≡ 0 → 0 < length (body_in h.bodies c.0).nodes
    → Began z h (begins_from h (lain h memory older ss) c.0 at lobby holder) s o c
starts z h s f hosted run memory older ss park room o c holder lobby at o_is lobby_is unit owned space none some =
    let x = body_in h.bodies c.0 in
    let initial = initial_words h.references x in
    let to = begins_from h (lain h memory older ss) c.0 at lobby holder in
    let place = first_place h c.0 (length h.statuses) in
    let there = there_first h run c.0 (length h.statuses) room in
    let cell = first_context h c.0 place lobby in
    let top = h.machine.regs 6 in
    let end = f.stands.heap.laid.end in
    let low : 0x20000000 ≤ top = end.above in
    let aligned : top % 4 ≡ 0 = end.aligned in
    let long = initial_long h.references x in
    let fits : top + 4 * length cell ≤ 0x20000000 + 46137344 = omega (arith, space.room, long, none) in
    let rest = rests_on h run memory ss park top cell low fits in
    let laid = heap_words (with_words memory top cell) in
    let framed : Framed (heap_words memory) laid top cell = framed_in_heap cell memory top park.within aligned low fits in
    let number : numbered h.references.contexts ≡ 4 * h.references.contexts = omega (arith, space.small) in
    let are : cell ≡ words_of (Context h.references.contexts 0 place lobby initial) = λ i. number i ∷ 0 ∷ place ∷ lobby ∷ initial in
    let framed2 : Framed (raw_of h).mem laid top (words_of (Context h.references.contexts 0 place lobby initial)) =
    subst (λ (w : Words). Framed w laid top (words_of (Context h.references.contexts 0 place lobby initial))) park.heap (subst (λ (us : List ℕ). Framed (heap_words memory) laid top us) are framed) in
    let entry = first_entry h memory older ss hosted run room c.0 at lobby holder unit owned some rest in
    let thread : Thread = Going (context_frame entry (top + 1) place ∷ []) in
    let e : Entry = record { body = c.0; receiver = values.Object 0; holder = o; maker = None; arguments = [] } in
    let body_same : 0 ≡ length (body_of s c.0).arguments = sym none ∙ ap (λ bs. length (body_in bs c.0).arguments) f.bodies in
    let paid : h.cost + h.machine.regs 3 + (4 + length initial) ≤ 4194304 = omega (arith, space.paid, long, none) in
    let fits2 : top + 4 * (4 + length initial) ≤ 0x20000000 + 46137344 = omega (arith, fits) in
    let raw : RawBegun z (raw_of h) s e entry place laid =
    raw_begins z (raw_of h) s f.stands f.core e entry place
    (record { body = refl; receiver = lobby_is; holder = o_is; outer = refl; arguments = tt; initial = initials_are z h s f run c.0 })
    tt (wants_one h s c.0 c.0 f.bodies refl owned)
    (free_behind h memory ss park run place (stack_first h run c.0 (length h.statuses) room))
    (λ q. (let bad : ⊥ = omega (arith, q, there.1) in bad))
    h.references.contexts laid body_same framed2 fits2 space.mapped paid in
    let shows : raw_of to ≡ opened (raw_of h) laid (4 + length initial) thread = raw_then h memory older ss hosted run room c.0 at lobby holder unit owned some rest in
    let P : Raw → Type 0 = λ q. Stands raw.sense q raw.state in
    let Q : Raw → Type 0 = λ q. HasCore q raw.state raw.sense in
    record {
      hosted = hosted_then h memory older ss hosted run room c.0 at lobby holder unit owned some rest;
      all = λ b. run b;
      current = room;
      goal = goal_kept h memory older ss hosted run room c.0 at lobby holder unit owned some rest;
      left = left_kept h memory older ss hosted run room c.0 at lobby holder unit owned some rest;
      counted = refl;
      sum = refl;
      paid = omega arith;
      first = (first_node h memory older ss hosted run room c.0 at lobby holder unit owned some rest).0;
      runs = runs_then h memory older ss hosted run room c.0 at lobby holder unit owned some rest;
      state = raw.state;
      entered = raw.entered;
      sense = raw.sense;
      stands = record {
        stands = subst P (sym shows) raw.stands;
        core = subst Q (sym shows) raw.core;
        bodies = f.bodies ∙ sym raw.fixed.bodies;
        objects = λ k w is. raw.grows.objects k w (f.objects k w is);
        nil = ap (λ q. slice_get raw.sense.places.objects q.nil) raw.fixed.core ∙ raw.grows.objects s.core.nil h.references.nil f.nil;
        sums = (let N : List (List ℕ) → Type 0 = NamesSums in subst N (sym raw.fixed.names) f.sums);
      };
    }

-- no activity runs
idles : (h : Host) (P : Host → Type 0) (x : Option Status) → ((sp pc count : ℕ) → x ≢ Some (Waiting sp pc count)) → P h → P (parked_by x h)
idles h P None idle p = p
idles h P (Some (Waiting sp pc count)) idle p = absurd (idle sp pc count refl)
idles h P (Some (Answered w)) idle p = p
idles h P (Some (Failed e q)) idle p = p

pub activities_begin : ActivitiesBegin
activities_begin z h s f hosted run (AtPoll b n node r) room o c holder lobby at o_is lobby_is unit owned space none some =
    let P : Host → Type 0 = λ p. Began z h (begins_from h p c.0 at lobby holder) s o c in
    let Q : Option Status → Type 0 = λ x. P (parked_by x h) in
    let older = (flushed (stack_of h.machine)).held in
    let ss = slice_set h.statuses h.current (parked_status h) in
    let went = starts z h s f hosted run (flushed_memory h) older ss (running_parks h b n node r hosted run) room o c holder lobby at o_is lobby_is unit owned space none some in
    let R : (ℕ → ℕ) → Type 0 = λ regs. P (record h { machine = record h.machine { memory = flushed_memory h; regs = regs; older = older }; statuses = ss }) in
    subst Q (sym r.view.running) (subst R (sym (flushed_registers h b n node r hosted run)) went)
activities_begin z h s f hosted run (Idle idle) room o c holder lobby at o_is lobby_is unit owned space none some =
    let P : Host → Type 0 = λ p. Began z h (begins_from h p c.0 at lobby holder) s o c in
    idles h P (slice_get h.statuses h.current) idle
    (starts z h s f hosted run h.machine.memory h.machine.older h.statuses (idle_parks h hosted idle) room o c holder lobby at o_is lobby_is unit owned space none some)
