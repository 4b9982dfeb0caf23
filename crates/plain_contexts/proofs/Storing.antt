-- A word is stored in the heap, and one is pended.
use Rattle.std.proofs.Common.{◌≡◌, ℕ, ◌+◌, ◌-◌, ◌*◌, ◌%◌, ◌^◌, ◌≤◌, refl, ◌∙◌, ap, sym, subst, arith}
use Rattle.std.specs.Prelude.{[], ◌∷◌, ◌++◌, length, Some, slice_get, slice_set, drop}
use Rattle.self_terms.specs.declared.nodes.Node.{Node}
use Rattle.self_terms.specs.Depths.{depth}
use Rattle.sparc_store.specs.Words.{Words, word_at, IsWithin}
use Rattle.sparc_store.specs.Windows.{kept}
use Rattle.sparc_store.proofs.Placed.{put_stays_within}
use Rattle.sparc_machine.specs.State.{MachineState}
use Rattle.source_model.specs.State.{State}
use Rattle.source_model.specs.Soundness.{body_in}
use Rattle.source_model.specs.Step.{step}
use Rattle.frame_walk.specs.Places.{Frame, shown, plain_descriptor, pending_offset}
use Rattle.frame_walk.specs.Raw.{Thread, Going, Raw, becomes, moved_on}
use Rattle.frame_walk.specs.Walk.{SameBetween}
use Rattle.frame_walk.proofs.Resting.{shown_same}
use Rattle.raw_steps.specs.Stands.{Sense, Follows as RawFollows}
use Rattle.plain_words.specs.Going.{Goes, StandsAt}
use Rattle.plain_words.specs.Code.{poll}
use Rattle.plain_words.specs.Moves.{Moved, pended}
use Rattle.plain_words.specs.Showing.{viewed}
use Rattle.plain_words.specs.Units.{frame_locals, frame_words}
use Rattle.plain_words.proofs.Shown.{pended_shows, window_same}
use Rattle.plain_runs.specs.Host.{Host, seen, threads_from, raw_of, heap_words}
use Rattle.plain_runs.specs.Sound.{RunsAt, IsHosted, callers_of}
use Rattle.plain_runs.specs.Course.{with_machine, CanGo, code_at}
use Rattle.plain_runs.proofs.Keeping.{threads_set, unit_kept}
use Rattle.plain_runs.proofs.Working.{ChangedInView, code_same, heap_stays, run_kept, plain_fits, view_on}
use Rattle.plain_runs.proofs.Ready.{next_poll}
use Rattle.plain_steps.specs.Steps.{StandsFor, DoesStep}
use Rattle.plain_steps.proofs.Words.{stands_after}
use Rattle.plain_sends.proofs.Settling.{KeptTo, stays_there}
use Rattle.plain_sends.proofs.Serving.{set_set, older_ones}

-- what the raw state becomes, with another heap and another plain cost
abbrev pub heaped : Host → Thread → ℕ → ℕ → Words → Raw
heaped h t top cost mem = record (becomes (raw_of h) t) { mem = mem; heap = record { top = top; next = h.next }; cost = cost }

-- the machine has gone on to the next node's poll, and the heap has changed
pub record GoneOn (h : Host) (to : MachineState) (b n : ℕ) (next : Node) (now : Frame) (older top cost : ℕ) (mem : Words) : Type 0 where
  pub hosted : IsHosted (with_machine h to)
  pub goal : word_at to.memory 0x30000000 ≡ word_at h.machine.memory 0x30000000
  pub left : word_at to.memory 0x30000004 ≡ word_at h.machine.memory 0x30000004
  pub runs : RunsAt (with_machine h to) b (n + 1) next
  pub raw : raw_of (with_machine h to) ≡ heaped h (Going (now ∷ callers_of h older)) top cost mem

-- Another machine, which differs from the host's in the heap and in counts, has gone on: a word is pended in place of the q youngest.
pub gone_on : (h : Host) (b n : ℕ) (node next : Node) (m1 to : MachineState) (j q word : ℕ) → (r : RunsAt h b n node) → CanGo h → KeptTo h m1 (word_at h.machine.memory 0x30000000) → word_at m1.memory 0x30000004 ≡ word_at h.machine.memory 0x30000004
    → slice_get (body_in h.bodies b).nodes (n + 1) ≡ Some next → depth (body_in h.bodies b).nodes (n + 1) ≡ j + 1 → depth (body_in h.bodies b).nodes n ≡ j + q
    → Moved m1 to (h.machine.pc + 4 * length (poll ++ code_at h b n node)) (pended m1 (frame_locals (body_in h.bodies b)) j word) ((h.machine.regs 2 + 1) % 2 ^ 32)
    → (let f = viewed h.machine b n (frame_locals (body_in h.bodies b)) (depth (body_in h.bodies b).nodes n) in
    GoneOn h to b n next (moved_on (word ∷ drop q f.pending) f) r.view.older (m1.regs 6) (h.cost + m1.regs 3) (heap_words m1.memory))
gone_on h b n node next m1 to j q word r can st left more deeper over mv =
    let m = h.machine in
    let x = body_in h.bodies b in
    let locals = frame_locals x in
    let words = frame_words x in
    let hm = with_machine h m1 in
    let still = stays_there h m1 b (word_at m.memory 0x30000000) r.view can.hosted can.runs st in
    let p = m.pc + 4 * length (poll ++ code_at h b n node) in
    let room = (can.runs b).room n in
    let place = still.view.frame.place in
    let shows = pended_shows m1 to p ((m.regs 2 + 1) % 2 ^ 32) words locals j word st.within place (omega (arith, room, over)) mv in
    let at = m1.regs 14 + pending_offset locals j in
    let c : ChangedInView hm b to = record {
      changed = shows.1;
      high = place.1;
      ends = still.view.frame.ends;
      heap = ap heap_words mv.memory_is ∙ heap_stays m1.memory at word (omega (arith, place.1));
      within = (let P : Words → Type 0 = IsWithin in subst P (sym mv.memory_is) (put_stays_within m1.memory at word st.within));
    } in
    let stands : StandsAt to to.pc = record { here = refl; next = mv.stands.next ∙ ap (λ y. y + 4) (sym mv.stands.here) } in
    let unit1 = unit_kept h m1 b r.poll.at st.code r.poll.unit in
    let poll_next = next_poll h b n node next to r.poll r.node_is more (unit_kept hm to b r.poll.at (code_same hm b to c) unit1) mv.stands.here in
    let f = viewed m b n locals (depth x.nodes n) in
    let f1 = viewed m1 b n locals j in
    let now1 : Frame = record f1 { next = n + 1; pending = word ∷ f1.pending } in
    let view = view_on hm b (n + 1) next to now1 still.view still.hosted (run_kept h m1 can.runs) can.current c mv.kept mv.older stands poll_next more (ap (viewed to b (n + 1) locals) deeper ∙ shows.0 b n (n + 1)) in
    let d1 = plain_descriptor b n locals j in
    let window = kept m.regs in
    let sp = m.regs 14 in
    let same : SameBetween sp (sp + 4 * words) m.memory m1.memory = λ a from end. st.stacks a (omega (arith, from, r.view.frame.place.1)) in
    let frame_same : f1 ≡ record f { pending = drop q f.pending } =
    ap (λ y. shown m1.memory y (m1.regs 14) d1) (window_same m1.regs m.regs st.window)
    ∙ ap (λ y. shown m1.memory window y d1) st.frame
    ∙ shown_same m.memory m1.memory window sp (4 * words) d1 (plain_fits words b n locals j (omega (arith, room, over))) same
    ∙ ap (λ y. shown m.memory window sp (plain_descriptor b n locals y)) (let e : j ≡ depth x.nodes n - q = omega (arith, over) in e)
    ∙ older_ones m.memory window sp b n locals q (depth x.nodes n) (omega (arith, over)) in
    let moved : now1 ≡ moved_on (word ∷ drop q f.pending) f = ap {A = Frame} (λ y. record y { next = n + 1; pending = word ∷ y.pending }) frame_same in
    let threads : threads_from (with_machine h to) 0 h.statuses ≡ slice_set (threads_from h 0 h.statuses) h.current (Going (moved_on (word ∷ drop q f.pending) f ∷ callers_of h r.view.older)) =
    view.threads
    ∙ ap (λ y. slice_set y h.current (Going (now1 ∷ callers_of hm still.view.older))) (threads_set h hm 0 h.current h.statuses r.view.sp r.view.pc r.view.known refl (omega arith) r.view.running still.waits)
    ∙ set_set (threads_from h 0 h.statuses) h.current (Going (seen hm)) (Going (now1 ∷ callers_of hm still.view.older))
    ∙ ap (λ y. slice_set (threads_from h 0 h.statuses) h.current (Going (now1 ∷ callers_of hm y))) still.deep
    ∙ ap (λ y. slice_set (threads_from h 0 h.statuses) h.current (Going (now1 ∷ y))) still.callers
    ∙ ap (λ y. slice_set (threads_from h 0 h.statuses) h.current (Going (y ∷ callers_of h r.view.older))) moved in
    let counted : h.steps + to.regs 2 ≡ h.steps + m.regs 2 + 1 = omega (arith, mv.counted, can.left, can.hosted.goal) in
    record {
      hosted = view.hosted;
      goal = view.goal ∙ st.goal_is;
      left = view.left ∙ left;
      runs = view.runs;
      raw = λ i. record {
        maps = h.maps;
        mem = c.heap i;
        heap = record { top = mv.kept 6 refl i; next = h.next };
        threads = threads i;
        current = h.current;
        steps = counted i;
        cost = ap (λ y. h.cost + y) (mv.kept 3 refl) i;
      };
    }

-- it meets the source's step, where the top goes up as the plain cost does
pub gone_step : (z : Sense) (h : Host) (s : State) (b n : ℕ) (next : Node) (now : Frame) (older top cost : ℕ) (mem : Words) (to : MachineState) (instructions : ℕ) → instructions ≤ 512 → Goes instructions h.machine to → StandsFor z h s
    → GoneOn h to b n next now older top cost mem → top + 4 * (h.cost + h.machine.regs 3) ≡ h.machine.regs 6 + 4 * cost → RawFollows z (heaped h (Going (now ∷ callers_of h older)) top cost mem) (step s) [] → DoesStep z h s
gone_step z h s b n next now older top cost mem to instructions few goes f g pays raw = record {
  instructions = instructions;
  few = few;
  to = to;
  goes = goes;
  hosted = g.hosted;
  goal = g.goal;
  left = g.left;
  paid = (let up : to.regs 6 ≡ top = ap (λ (y : Raw). y.heap.top) g.raw in let sum : h.cost + to.regs 3 ≡ cost = ap (λ (y : Raw). y.cost) g.raw in omega (arith, up, sum, pays));
  body = b;
  number = n + 1;
  next = next;
  runs = g.runs;
  sense = raw.to;
  stands = stands_after z h (with_machine h to) s (heaped h (Going (now ∷ callers_of h older)) top cost mem) f g.raw refl refl refl raw;
  counted = sym raw.stands.steps ∙ ap (λ y. y + 1) f.stands.steps;
  silent = raw.same;
}
