-- The host when an activity has begun.
use Rattle.std.proofs.Common.{◌≡◌, ◌≢◌, ℕ, suc, ◌+◌, ◌-◌, ◌*◌, ◌<◌, ◌==◌, refl, ◌∙◌, ap, sym, arith, inl, inr}
use Rattle.std.proofs.lemmas.Grind.{common_steps}
use Rattle.std.proofs.lemmas.List.{length_push}
use Rattle.std.proofs.lemmas.List.Elements.{All-nil}
use Rattle.std.proofs.lemmas.Option.{slice_get_within}
use Rattle.std.specs.Prelude.{true, false, if◌then◌else◌, List, [], ◌∷◌, ◌++◌, length, map, Some, slice_get}
use Rattle.self_terms.specs.declared.nodes.Node.{Node}
use Rattle.self_terms.specs.Depths.{depth}
use Rattle.sparc_insn.specs.declared.insn.Insn.TheVariants.{Trap}
use Rattle.sparc_store.specs.Words.{Words, word_at}
use Rattle.sparc_store.specs.Windows.{Frame as Window, kept, saved_at, frame_before, but_first}
use Rattle.source_model.specs.Soundness.{body_in}
use Rattle.heap_cells.proofs.Numbered.{got_last, push_cases}
use Rattle.frame_walk.specs.Places.{Descriptor}
use Rattle.frame_walk.specs.Raw.{Going}
use Rattle.frame_walk.specs.Walk.{activations, Asked, AreLaid}
use Rattle.frame_walk.proofs.Resting.{laid_as}
use Rattle.raw_steps.specs.Sends.{RawEntry, plain_frame}
use Rattle.plain_words.specs.Showing.{viewed}
use Rattle.plain_words.specs.Units.{entry_code, initial_words, owns_context, frame_locals, frame_words}
use Rattle.plain_runs.specs.Host.{Host, seen, waiting, thread_of, threads_from, raw_of, descriptor_at}
use Rattle.plain_runs.specs.declared.status.Status.{Status}
use Rattle.plain_runs.specs.declared.status.Status.TheVariants.{Waiting, Answered, Failed}
use Rattle.plain_runs.specs.Units.{HasUnit}
use Rattle.plain_runs.specs.Services.{filled, in_first_frame}
use Rattle.plain_runs.specs.Sound.{IsWindow, IsCaller, IsHeld, Calls, Polls, RunsAt, IsHosted, entry_frame, ending_stub}
use Rattle.plain_runs.specs.Course.{AllRun}
use Rattle.plain_runs.proofs.Keeping.{SameCode, unit_kept, stub_kept}
use Rattle.plain_runs.proofs.Taking.{take_up_as}
use Rattle.plain_runs.proofs.Located.{none_before}
use Rattle.plain_steps.proofs.Here.{now_seen}
use Rattle.plain_begins.specs.Begins.{with_thread}
use Rattle.plain_begins.proofs.Parking.{Parks, lying}
use Rattle.plain_begins.proofs.Filled.{first_place, first_there, first_ends, first_shows, first_within, first_heap, first_low, first_others, first_ready}

-- the host over another memory, with other frames held and other statuses
abbrev pub lain : Host → Words → List Window → List Status → Host
lain h memory older ss = record h { machine = record h.machine { memory = memory; older = older }; statuses = ss }

-- An activity begins where the host has come to another, whose frames all stand in memory.
abbrev pub begins_from : Host → Host → ℕ → ℕ → ℕ → ℕ → Host
begins_from h p b at receiver holder =
    let x = body_in h.bodies b in
    let k = length h.statuses in
    let place = entry_frame k - 4 * frame_words x in
    let first = at + 4 * length (entry_code h.references x) in
    let m = record p.machine { memory = filled p.machine.memory place holder (initial_words h.references x) } in
    record p { machine = record (in_first_frame place (entry_frame k) receiver m) { pc = first; npc = first + 4 }; statuses = p.statuses ++ Waiting 0 0 0 ∷ []; current = k }

none_laid : (asked : Asked) (entry end : ℕ) (memory : Words) (sp : ℕ) (w : Window) (pc : ℕ) (held : List Window) → sp ≡ entry → pc ≡ end → AreLaid asked entry end memory 0 sp w pc held
unfolding AreLaid
none_laid asked entry end memory sp w pc held e f = (e, f)

none_seen : (d : ℕ → Descriptor) (memory : Words) (sp : ℕ) (w : Window) (pc : ℕ) (held : List Window) → activations d memory 0 sp w pc held ≡ []
unfolding activations
none_seen d memory sp w pc held = refl

depth_first : (nodes : List Node) → depth nodes 0 ≡ 0
unfolding depth
depth_first [] = refl
depth_first (x ∷ xs) = refl

first_of : {A : Type 0} (xs : List A) → 0 < length xs → (x : A) × (slice_get xs 0 ≡ Some x)
first_of [] h = absurd (omega (arith, h))
first_of (x ∷ xs) h = (x, refl)

not_last : (a b : ℕ) → a ≢ b → (a == b) ≡ false
not_last a b e = grind (arith, common_steps)

is_last : (a b : ℕ) → a ≡ b → (a == b) ≡ true
is_last a b e = grind (arith, common_steps)

-- the threads of a host whose last activity is the current one
threads_then : (to h : Host) (memory : Words) (from : ℕ) (ss : List Status) (w : Status) → ((j : ℕ) (x : Status) → slice_get ss j ≡ Some x → thread_of to (from + j) x ≡ lying h memory x)
    → threads_from to from (ss ++ w ∷ []) ≡ map (lying h memory) ss ++ thread_of to (from + length ss) w ∷ []
threads_then to h memory from [] w each = ap (λ k. thread_of to k w ∷ []) (omega arith)
threads_then to h memory from (x ∷ ss) w each =
    let first : thread_of to from x ≡ lying h memory x = ap (λ k. thread_of to k x) (omega arith) ∙ each 0 x refl in
    ap (λ t. t ∷ threads_from to (from + 1) (ss ++ w ∷ [])) first
    ∙ ap (λ ts. lying h memory x ∷ ts) (threads_then to h memory (from + 1) ss w (λ j y e. ap (λ k. thread_of to k y) (omega arith) ∙ each (suc j) y e))
    ∙ ap (λ k. lying h memory x ∷ (map (lying h memory) ss ++ thread_of to k w ∷ [])) (omega arith)

pub threads_long : (h : Host) (from : ℕ) (ss : List Status) → length (threads_from h from ss) ≡ length ss
threads_long h from [] = refl
threads_long h from (x ∷ ss) = ap suc (threads_long h (from + 1) ss)

same_descriptors : (h to : Host) → to.points ≡ h.points → to.bodies ≡ h.bodies → descriptor_at to ≡ descriptor_at h
unfolding descriptor_at
same_descriptors h to points bodies = λ i pc. descriptor_at (record h { points = points i; bodies = bodies i }) pc

module _ (h : Host) (memory : Words) (older : List Window) (ss : List Status) (park : Parks h memory ss) (hosted : IsHosted h) (run : AllRun h) (room : length h.statuses < 4)
    (c at receiver holder : ℕ) (unit : HasUnit h c at) (plain : owns_context (body_in h.bodies c) ≡ false) (none : length (body_in h.bodies c).arguments ≡ 0) (some : 0 < length (body_in h.bodies c).nodes) where
  abbrev to : Host
  to = begins_from h (lain h memory older ss) c at receiver holder

  abbrev k : ℕ
  k = length h.statuses

  low : SameCode h.machine.memory to.machine.memory
  low b lt = first_low h memory ss park run room c holder plain none b (omega (arith, lt))

  unit_on : (b p : ℕ) → HasUnit h b p → HasUnit to b p
  unit_on b p u0 =
      let u = unit_kept h to.machine b p low u0 in
      record { given = u.given; known = u.known; entry = u.entry; from = u.from; region = u.region; code = u.code; points = u.points }

  caller_on : (pc sp fp : ℕ) → IsCaller h pc sp fp → IsCaller to pc sp fp
  caller_on pc sp fp q = record {
    body = q.body;
    number = q.number;
    node = q.node;
    call = record { at = q.call.at; unit = unit_on q.body q.call.at q.call.unit; node_is = q.call.node_is; call = q.call.call; address = q.call.address };
    room = record { ends = q.room.ends; place = q.room.place };
  }

  held_on : (pc sp fp : ℕ) → IsHeld h pc sp fp → IsHeld to pc sp fp
  held_on pc sp fp (Calls q) = Calls (caller_on pc sp fp q)
  held_on pc sp fp (Polls b n p r q) = Polls b n (record { at = p.at; word = p.word; unit = unit_on b p.at p.unit; inside = p.inside; within = p.within; address = p.address }) r (record { ends = q.ends; place = q.place })

  pub goal_kept : word_at to.machine.memory 0x30000000 ≡ word_at h.machine.memory 0x30000000
  goal_kept = first_low h memory ss park run room c holder plain none 0x30000000 (omega arith)

  pub left_kept : word_at to.machine.memory 0x30000004 ≡ word_at h.machine.memory 0x30000004
  left_kept = first_low h memory ss park run room c holder plain none 0x30000004 (omega arith)

  pub hosted_then : IsHosted to
  hosted_then = record {
    within = first_within h memory ss park run room c holder plain none;
    register_0 = hosted.register_0;
    windows = All-nil IsWindow;
    units = λ b p given is stands. unit_on b p (hosted.units b p given is stands);
    stub = stub_kept (Trap 9 ∷ []) h to.machine ending_stub low (omega arith) hosted.stub;
    activities = omega (arith, length_push ss (Waiting 0 0 0), park.long, room);
    others = λ j sp pc count is ne. elim (push_cases ss j (Waiting sp pc count) (Waiting 0 0 0) is) [
      | inl before ↦
          let new = to.machine.memory in
          laid_as (IsHeld h) (IsHeld to) (entry_frame j) ending_stub new count sp (saved_at new sp) pc [] held_on (first_others h memory ss park run room c holder plain none j sp pc count before).1
      | inr last ↦ absurd (ne (last.0 ∙ park.long))
    ];
    parked = λ j sp pc count is ne. elim (push_cases ss j (Waiting sp pc count) (Waiting 0 0 0) is) [
      | inl before ↦
          take_up_as h to (λ q b n p. record { at = p.at; unit = unit_on b p.at p.unit; inside = p.inside; address = p.address }) (λ b s f r. record { ends = r.ends; place = r.place }) caller_on
          to.machine.memory j sp pc count (first_ready h memory ss park run room c holder plain none j sp pc count before)
      | inr last ↦ absurd (ne (last.0 ∙ park.long))
    ];
    goal = omega (arith, goal_kept, hosted.goal);
  }

  pub first_node : (node : Node) × (slice_get (body_in h.bodies c).nodes 0 ≡ Some node)
  first_node = first_of (body_in h.bodies c).nodes some

  pub runs_then : RunsAt to c 0 first_node.0
  runs_then =
      let x = body_in h.bodies c in
      let there = first_there h memory ss park run room c holder plain none in
      let ends = first_ends h memory ss park run room c holder plain none in
      record {
        view = record {
          sp = 0;
          pc = 0;
          known = 0;
          running = ap (slice_get (ss ++ Waiting 0 0 0 ∷ [])) (sym park.long) ∙ got_last ss (Waiting 0 0 0);
          frame = record { ends = ends; place = there };
          older = 0;
          count = refl;
          few = omega arith;
          held = omega arith;
          callers = none_laid (IsCaller to) (entry_frame k) ending_stub to.machine.memory (to.machine.regs 30) (frame_before to.machine.memory (to.machine.regs 30) to.machine.older) (to.machine.regs 31 + 8) (but_first to.machine.older) refl refl;
        };
        stands = record { here = refl; next = refl };
        poll = record {
          at = at;
          unit = unit_on c at unit;
          inside = some;
          address = omega (arith, none_before x.nodes h.references (owns_context x) (frame_locals x) 0 0);
        };
        node_is = first_node.1;
      }

  -- the entry of the activity, and what its one activation shows
  abbrev pub first_entry : RawEntry
  first_entry = record { body = c; receiver = receiver; holder = holder; outer = 0; arguments = []; initial = initial_words h.references (body_in h.bodies c) }

  seen_then : seen to ≡ plain_frame first_entry (first_place h c k) ∷ []
  unfolding runs_then
  seen_then =
      let x = body_in h.bodies c in
      let m = to.machine in
      let locals = frame_locals x in
      now_seen to c 0 first_node.0 runs_then
      ∙ ap (λ d. viewed m c 0 locals d ∷ activations (descriptor_at to) m.memory 0 (m.regs 30) (frame_before m.memory (m.regs 30) m.older) (m.regs 31 + 8) (but_first m.older)) (depth_first x.nodes)
      ∙ ap (λ ys. viewed m c 0 locals 0 ∷ ys) (none_seen (descriptor_at to) m.memory (m.regs 30) (frame_before m.memory (m.regs 30) m.older) (m.regs 31 + 8) (but_first m.older))
      ∙ ap (λ y. y ∷ []) (first_shows h memory ss park run room c holder plain none (kept m.regs))

  one_then : (j : ℕ) (x : Status) → slice_get ss j ≡ Some x → thread_of to (0 + j) x ≡ lying h memory x
  one_then j (Waiting sp pc count) e =
      let new = to.machine.memory in
      let lt = slice_get_within ss j (Waiting sp pc count) e in
      let away : (0 + j == k) ≡ false = not_last (0 + j) k (λ q. (let bad : ⊥ = omega (arith, lt, park.long, q) in bad)) in
      ap (λ q. Going (if q then seen to else waiting to sp pc count)) away
      ∙ ap (λ d. Going (activations d new count sp (saved_at new sp) pc [])) (same_descriptors h to refl refl)
      ∙ ap Going (first_others h memory ss park run room c holder plain none j sp pc count e).0
  one_then j (Answered w) e = refl
  one_then j (Failed x p) e = refl

  threads_are : threads_from to 0 to.statuses ≡ threads_from h 0 h.statuses ++ Going (plain_frame first_entry (first_place h c k) ∷ []) ∷ []
  threads_are =
      threads_then to h memory 0 ss (Waiting 0 0 0) one_then
      ∙ ap (λ q. map (lying h memory) ss ++ Going (if q then seen to else waiting to 0 0 0) ∷ []) (is_last (0 + length ss) k (omega (arith, park.long)))
      ∙ ap (λ fs. map (lying h memory) ss ++ Going fs ∷ []) seen_then
      ∙ ap (λ ts. ts ++ Going (plain_frame first_entry (first_place h c k) ∷ []) ∷ []) park.shows

  -- beside the new activity the host shows what it showed
  pub raw_then : raw_of to ≡ with_thread (raw_of h) (Going (plain_frame first_entry (first_place h c k) ∷ []))
  raw_then = λ i. record {
    maps = h.maps;
    mem = first_heap h memory ss park run room c holder plain none i;
    heap = record { top = h.machine.regs 6; next = h.next };
    threads = threads_are i;
    current = sym (threads_long h 0 h.statuses) i;
    steps = h.steps + h.machine.regs 2;
    cost = h.cost + h.machine.regs 3;
  }
