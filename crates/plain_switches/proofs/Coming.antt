-- The host over frames that all stand in memory, with another current activity.
use Rattle.std.proofs.Common.{◌≡◌, ◌≢◌, ℕ, suc, ◌+◌, ◌≤◌, ◌==◌, refl, ◌∙◌, ap, sym, subst, arith, inl, inr}
use Rattle.std.proofs.lemmas.Bool.{cases_eq}
use Rattle.std.proofs.lemmas.Grind.{common_steps}
use Rattle.std.specs.Prelude.{true, false, if◌then◌else◌, List, [], ◌∷◌, All, length, map, Some, slice_get}
use Rattle.self_terms.specs.declared.nodes.Node.{Node}
use Rattle.sparc_insn.specs.declared.insn.Insn.TheVariants.{Trap}
use Rattle.sparc_store.specs.Words.{Words, word_at}
use Rattle.sparc_store.specs.Windows.{Frame as Window, kept, saved_at, frame_before, but_first}
use Rattle.sparc_machine.specs.State.{MachineState}
use Rattle.source_model.specs.Soundness.{body_in}
use Rattle.heap_cells.proofs.Numbered.{got_if}
use Rattle.frame_walk.specs.Raw.{Going}
use Rattle.frame_walk.specs.Walk.{activations, AreLaid}
use Rattle.frame_walk.proofs.Resting.{laid_as}
use Rattle.plain_runs.specs.Host.{Host, seen, waiting, thread_of, threads_from, descriptor_at}
use Rattle.plain_runs.specs.declared.status.Status.{Status}
use Rattle.plain_runs.specs.declared.status.Status.TheVariants.{Waiting, Answered, Failed}
use Rattle.plain_runs.specs.Units.{HasUnit}
use Rattle.plain_runs.specs.Sound.{IsWindow, IsRoomy, IsCaller, IsHeld, Calls, Polls, CanTakeUp, RunsAt, IsHosted, entry_frame, ending_stub}
use Rattle.plain_runs.specs.Course.{AllRun}
use Rattle.plain_runs.proofs.Keeping.{SameCode, unit_kept, stub_kept}
use Rattle.plain_runs.proofs.Taking.{take_up_as}
use Rattle.plain_begins.proofs.Parking.{Parks, lying}

-- what the machine shows in view is what the activity of this status shows in memory
abbrev pub Sees : Host → Words → MachineState → Status → Type 0
Sees h memory m (Waiting sp pc count) =
    activations (descriptor_at h) memory (m.regs 4) (m.regs 14) (kept m.regs) m.pc m.older ≡ activations (descriptor_at h) memory count sp (saved_at memory sp) pc []
Sees h memory m _ = Unit {0}

not_current : (a b : ℕ) → a ≢ b → (a == b) ≡ false
not_current a b e = grind (arith, common_steps)

is_current : (a b : ℕ) → a ≡ b → (a == b) ≡ true
is_current a b e = grind (arith, common_steps)

same_descriptors : (h to : Host) → to.points ≡ h.points → to.bodies ≡ h.bodies → descriptor_at to ≡ descriptor_at h
unfolding descriptor_at
same_descriptors h to points bodies = λ i pc. descriptor_at (record h { points = points i; bodies = bodies i }) pc

-- each thread is that of its place
all_lie : (to h : Host) (memory : Words) (from : ℕ) (ss : List Status) → ((j : ℕ) (x : Status) → slice_get ss j ≡ Some x → thread_of to (from + j) x ≡ lying h memory x) → threads_from to from ss ≡ map (lying h memory) ss
all_lie to h memory from [] each = refl
all_lie to h memory from (x ∷ ss) each =
    let first : thread_of to from x ≡ lying h memory x = ap (λ k. thread_of to k x) (omega arith) ∙ each 0 x refl in
    ap (λ t. t ∷ threads_from to (from + 1) ss) first ∙ ap (λ ts. lying h memory x ∷ ts) (all_lie to h memory (from + 1) ss (λ j y e. ap (λ k. thread_of to k y) (omega arith) ∙ each (suc j) y e))

module _ (h : Host) (memory : Words) (ss : List Status) (park : Parks h memory ss) (hosted : IsHosted h) (run : AllRun h) (k : ℕ) (m : MachineState) (zero_is : m.regs 0 ≡ 0) (windows : All IsWindow m.older) (sees : (x : Status) → slice_get ss k ≡ Some x → Sees h memory m x) where
  abbrev pub coming : Host
  coming = record h { machine = record m { memory = memory }; statuses = ss; current = k }

  abbrev to : Host
  to = coming

  low : SameCode h.machine.memory to.machine.memory
  low b lt = park.low b (omega (arith, lt))

  unit_on : (b p : ℕ) → HasUnit h b p → HasUnit to b p
  unit_on b p u0 =
      let u = unit_kept h to.machine b p low u0 in
      record { given = u.given; known = u.known; entry = u.entry; from = u.from; region = u.region; code = u.code; points = u.points }

  caller_on : (pc sp fp : ℕ) → IsCaller h pc sp fp → IsCaller to pc sp fp
  caller_on pc sp fp q = record {
    body = q.body;
    number = q.number;
    node = q.node;
    call = record { at = q.call.at; unit = unit_on q.body q.call.at q.call.unit; node_is = q.call.node_is; call = q.call.call; address = q.call.address };
    room = record { ends = q.room.ends; place = q.room.place };
  }

  held_on : (pc sp fp : ℕ) → IsHeld h pc sp fp → IsHeld to pc sp fp
  held_on pc sp fp (Calls q) = Calls (caller_on pc sp fp q)
  held_on pc sp fp (Polls b n p r q) = Polls b n (record { at = p.at; word = p.word; unit = unit_on b p.at p.unit; inside = p.inside; within = p.within; address = p.address }) r (record { ends = q.ends; place = q.place })

  pub goal_kept : word_at to.machine.memory 0x30000000 ≡ word_at h.machine.memory 0x30000000
  goal_kept = park.low 0x30000000 (omega arith)

  pub left_kept : word_at to.machine.memory 0x30000004 ≡ word_at h.machine.memory 0x30000004
  left_kept = park.low 0x30000004 (omega arith)

  shows_here : (j : ℕ) (x : Status) → j ≡ k → Sees h memory m x → thread_of to j x ≡ lying h memory x
  shows_here j (Waiting sp pc count) same e =
      ap (λ q. Going (if q then seen to else waiting to sp pc count)) (is_current j k same)
      ∙ ap (λ d. Going (activations d memory (m.regs 4) (m.regs 14) (kept m.regs) m.pc m.older)) (same_descriptors h to refl refl)
      ∙ ap Going e
  shows_here j (Answered w) same e = refl
  shows_here j (Failed x p) same e = refl

  shows_there : (j : ℕ) (x : Status) → j ≢ k → thread_of to j x ≡ lying h memory x
  shows_there j (Waiting sp pc count) ne =
      ap (λ q. Going (if q then seen to else waiting to sp pc count)) (not_current j k ne)
      ∙ ap (λ d. Going (activations d memory count sp (saved_at memory sp) pc [])) (same_descriptors h to refl refl)
  shows_there j (Answered w) ne = refl
  shows_there j (Failed x p) ne = refl

  shows_each : (j : ℕ) (x : Status) → slice_get ss j ≡ Some x → thread_of to (0 + j) x ≡ lying h memory x
  shows_each j x is = elim (cases_eq (0 + j) k) [
    | inl same ↦ shows_here (0 + j) x same (sees x (ap (slice_get ss) (let e : k ≡ j = omega (arith, same) in e) ∙ is))
    | inr ne ↦ shows_there (0 + j) x ne
  ]

  pub threads_then : threads_from to 0 ss ≡ threads_from h 0 h.statuses
  threads_then = all_lie to h memory 0 ss shows_each ∙ park.shows

  -- frames that may be taken up still may
  take_up_then : (j sp pc count : ℕ) → slice_get ss j ≡ Some (Waiting sp pc count) → CanTakeUp to memory j sp pc count
  take_up_then j sp pc count is =
      take_up_as h to (λ q b n p. record { at = p.at; unit = unit_on b p.at p.unit; inside = p.inside; address = p.address }) (λ b s f r. record { ends = r.ends; place = r.place }) caller_on
      memory j sp pc count (park.ready j (Waiting sp pc count) is)

  pub hosted_then : IsHosted to
  hosted_then = record {
    within = park.within;
    register_0 = zero_is;
    windows = windows;
    units = λ b p given is stands. unit_on b p (hosted.units b p given is stands);
    stub = stub_kept (Trap 9 ∷ []) h to.machine ending_stub low (omega arith) hosted.stub;
    activities = omega (arith, park.long, hosted.activities);
    others = λ j sp pc count is ne.
        laid_as (IsHeld h) (IsHeld to) (entry_frame j) ending_stub memory count sp (saved_at memory sp) pc [] held_on (park.laid j (Waiting sp pc count) is);
    parked = λ j sp pc count is ne. take_up_then j sp pc count is;
    goal = omega (arith, goal_kept, hosted.goal);
  }

  -- where the machine is at the frame that is taken up, the activity runs
  pub runs_then : (sp pc count : ℕ) → slice_get ss k ≡ Some (Waiting sp pc count) → m.pc ≡ pc → m.npc ≡ pc + 4 → m.regs 4 ≡ count → m.regs 14 ≡ sp → m.regs 30 ≡ saved_at memory sp 14 → m.regs 31 ≡ saved_at memory sp 15 → length m.older ≤ 0
      → (b : ℕ) × (n : ℕ) × (node : Node) × RunsAt to b n node
  runs_then sp pc count is here next four place ends back none =
      let t = take_up_then k sp pc count is in
      let node = got_if (body_in h.bodies t.body).nodes t.number t.poll.inside in
      let bare : m.older ≡ [] = none_held m.older none in
      let P : ℕ → ℕ → List Window → Type 0 = λ x y held. AreLaid (IsCaller to) (entry_frame k) ending_stub memory t.older x (frame_before memory x held) (y + 8) (but_first held) in
      let callers : P (m.regs 30) (m.regs 31) m.older =
      subst (λ held. P (m.regs 30) (m.regs 31) held) (sym bare) (subst (λ x. P x (m.regs 31) []) (sym ends) (subst (λ y. P (saved_at memory sp 14) y []) (sym back) t.callers)) in
      let R : ℕ → ℕ → Type 0 = λ x y. IsRoomy to t.body x y in (
        t.body,
        t.number,
        node.0,
        record {
          view = record {
            sp = sp;
            pc = pc;
            known = count;
            running = is;
            frame = subst (λ x. R x (m.regs 30)) (sym place) (subst (λ y. R sp y) (sym ends) t.frame);
            older = t.older;
            count = four ∙ t.counted;
            few = t.few;
            held = omega (arith, none);
            callers = callers;
          };
          stands = record { here = refl; next = next ∙ ap (λ x. x + 4) (sym here) };
          poll = record { at = t.poll.at; unit = t.poll.unit; inside = t.poll.inside; address = here ∙ t.poll.address };
          node_is = node.1;
        },
      )
    where
      none_held : (held : List Window) → length held ≤ 0 → held ≡ []
      none_held [] e = refl
      none_held (w ∷ ws) e = absurd (omega (arith, e))
