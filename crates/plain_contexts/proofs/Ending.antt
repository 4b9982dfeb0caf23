-- The oldest activation of an activity ends.
use Rattle.std.proofs.Common.{◌≡◌, ◌≢◌, ◌⊎◌, ℕ, zero, suc, ◌+◌, ◌-◌, ◌%◌, ◌<◌, ◌==◌, refl, ◌∙◌, ap, sym, subst, arith, inl, inr}
use Rattle.std.specs.Prelude.{true, false, if◌then◌else◌, List, [], ◌∷◌, Some, slice_get, slice_set, All}
use Rattle.std.proofs.lemmas.Grind.{common_steps}
use Rattle.self_terms.specs.declared.nodes.Node.{Node}
use Rattle.self_terms.specs.declared.nodes.Node.TheVariants as nodes
use Rattle.self_terms.specs.Depths.{depth_from}
use Rattle.sparc_insn.specs.declared.insn.Insn.TheVariants.{Trap}
use Rattle.sparc_store.specs.Words.{Words, word_at, with_word}
use Rattle.sparc_store.specs.Windows.{Frame as Window, IsPlace, saved_at, frame_before, but_first}
use Rattle.sparc_machine.specs.State.{MachineState}
use Rattle.sparc_machine.specs.Alu.{add}
use Rattle.source_model.specs.State.{State}
use Rattle.source_model.specs.Soundness.{body_in}
use Rattle.frame_walk.specs.Places.{Descriptor, pending_offset}
use Rattle.frame_walk.specs.Raw.{Going, Answered as Answer, Raw, becomes, answered_to}
use Rattle.frame_walk.specs.Walk.{AreLaid, activations}
use Rattle.raw_steps.specs.Stands.{Sense}
use Rattle.plain_words.specs.Going.{At, StandsAt, IsCodeFrom}
use Rattle.plain_words.specs.Moves.{CanReturn}
use Rattle.plain_words.specs.Units.{frame_locals, owns_context}
use Rattle.plain_words.proofs.Basics.{at_trap}
use Rattle.plain_runs.specs.Host.{Host, seen, waiting, thread_of, threads_from, raw_of, descriptor_at, heap_words}
use Rattle.plain_runs.specs.declared.status.Status.{Status}
use Rattle.plain_runs.specs.declared.status.Status.TheVariants.{Waiting, Answered, Failed}
use Rattle.plain_runs.specs.Sound.{IsWindow, InFrame, IsCaller, RunsAt, callers_of, entry_frame, ending_stub}
use Rattle.plain_runs.specs.Course.{with_machine, CanGo}
use Rattle.plain_runs.specs.Services.{answered}
use Rattle.plain_runs.proofs.Keeping.{threads_set}
use Rattle.plain_runs.proofs.Popping.{hosted_same, rest_windows}
use Rattle.plain_steps.specs.Steps.{StandsFor, EndsActivity}
use Rattle.plain_steps.proofs.Words.{stands_after}
use Rattle.plain_steps.proofs.Ending.{last_return, last_end}
use Rattle.plain_sends.proofs.Serving.{set_set}
use Rattle.plain_sends.proofs.Settling.{stays_there}
use Rattle.plain_contexts.specs.Contexts.{EndsOldest}
use Rattle.plain_contexts.proofs.Reading.{by_context}
use Rattle.plain_contexts.proofs.Assigning.{stored_kept, stored_left}
use Rattle.plain_contexts.proofs.Answering.{HasReturn, HasAnswer, leaves, return_is, return_has, end_is, end_has}

-- the host when the current activity has answered
abbrev ended : Host → MachineState → Host
ended h m = answered (with_machine h m)

no_callers : (asked : ℕ → ℕ → ℕ → Type 0) (entry end : ℕ) (memory : Words) (sp : ℕ) (w : Window) (pc : ℕ) (held : List Window) → AreLaid asked entry end memory 0 sp w pc held → (sp ≡ entry) × (pc ≡ end)
unfolding AreLaid
no_callers asked entry end memory sp w pc held l = l

none_seen : (d : ℕ → Descriptor) (memory : Words) (sp : ℕ) (w : Window) (pc : ℕ) (held : List Window) → activations d memory 0 sp w pc held ≡ []
unfolding activations
none_seen d memory sp w pc held = refl

-- where the oldest activation returns to
record AtEnd (m : MachineState) (current : ℕ) : Type 0 where
  frame : m.regs 30 ≡ entry_frame current
  returns : m.regs 31 + 8 ≡ ending_stub

at_end : (h : Host) (b : ℕ) → (r : InFrame h b) → r.older ≡ 0 → AtEnd h.machine h.current
at_end h b r none =
    let m = h.machine in
    let w : Window = frame_before m.memory (m.regs 30) m.older in
    let callers = (let P : ℕ → Type 0 = λ z. AreLaid (IsCaller h) (entry_frame h.current) ending_stub m.memory z (m.regs 30) w (m.regs 31 + 8) (but_first m.older) in subst P none r.callers) in
    let l = no_callers (IsCaller h) (entry_frame h.current) ending_stub m.memory (m.regs 30) w (m.regs 31 + 8) (but_first m.older) callers in
    record { frame = l.0; returns = l.1 }

can_end : (h : Host) → AtEnd h.machine h.current → h.current < 4 → CanReturn h.machine
can_end h e low =
    let m = h.machine in
    let same : add (m.regs 31) 8 ≡ ending_stub = omega (arith, e.returns) in
    record {
      aligned = ap (λ z. z % 4) same;
      within = omega (arith, same);
      place = λ none. (let P : ℕ → Type 0 = IsPlace in subst P (sym e.frame) (omega arith, omega arith, omega (arith, low), omega (arith, low)));
    }

-- Threads, where the current activity has answered.
other : (a b : ℕ) → a ≢ b → (a == b) ≡ false
other a b ne = grind (arith, common_steps)

thread_after : (h : Host) (m : MachineState) (k : ℕ) (s : Status) → m.memory ≡ h.machine.memory → k ≢ h.current → thread_of (ended h m) k s ≡ thread_of h k s
unfolding descriptor_at
thread_after h m k (Waiting sp pc n) e ne =
    ap (λ b. Going (if b then seen (ended h m) else waiting (ended h m) sp pc n)) (other k h.current ne)
    ∙ ap (λ z. Going (activations (descriptor_at h) z n sp (saved_at z sp) pc [])) e
    ∙ sym (ap (λ b. Going (if b then seen h else waiting h sp pc n)) (other k h.current ne))
thread_after h m k (Answered w) e ne = refl
thread_after h m k (Failed x p) e ne = refl

threads_after : (h : Host) (m : MachineState) (from : ℕ) (ss : List Status) → m.memory ≡ h.machine.memory → h.current < from → threads_from (ended h m) from ss ≡ threads_from h from ss
threads_after h m from [] e low = refl
threads_after h m from (s ∷ ss) e low =
    ap (λ t. t ∷ threads_from (ended h m) (from + 1) ss) (thread_after h m from s e (λ same. absurd (omega (arith, same, low))))
    ∙ ap (λ ts. thread_of h from s ∷ ts) (threads_after h m (from + 1) ss e (omega arith))

threads_end : (h : Host) (m : MachineState) (from c : ℕ) (ss : List Status) (s : Status) (w : ℕ) → m.memory ≡ h.machine.memory → h.current ≡ from + c → slice_get ss c ≡ Some s
    → threads_from (ended h m) from (slice_set ss c (Answered w)) ≡ slice_set (threads_from h from ss) c (Answer w)
threads_end h m from c [] s w e at is = absurd (cc)
threads_end h m from zero (x ∷ ss) s w e at is = ap (λ ts. Answer w ∷ ts) (threads_after h m (from + 1) ss e (omega (arith, at)))
threads_end h m from (suc c) (x ∷ ss) s w e at is =
    ap (λ t. t ∷ threads_from (ended h m) (from + 1) (slice_set ss c (Answered w))) (thread_after h m from x e (λ same. absurd (omega (arith, same, at))))
    ∙ ap (λ ts. thread_of h from x ∷ ts) (threads_end h m (from + 1) c ss s w e (omega (arith, at)) is)

own_ends : (node : Node) → (node ≡ nodes.End) ⊎ (node ≡ nodes.Return) → HasReturn node → HasAnswer node → (z : Sense) (h : Host) (s : State) (b n : ℕ) → StandsFor z h s → (r : RunsAt h b n node) → CanGo h → owns_context (body_in h.bodies b) ≡ true
    → r.view.older ≡ 0 → EndsActivity z h s
own_ends node is code some z h s b n f r can owns last =
    let m = h.machine in
    let end = at_end h b r.view last in
    let g = leaves node is code some z h s b n f r can owns (can_end h end can.current) in
    let place = m.regs 17 + 7 in
    let memory = with_word m.memory place (m.regs 0) in
    let answer = word_at m.memory (m.regs 14 + pending_offset (frame_locals (body_in h.bodies b)) (depth_from 0 (body_in h.bodies b).nodes n - 1)) in
    let m1 : MachineState = record m { memory = memory } in
    let h1 = with_machine h m1 in
    let still = stays_there h m1 b (word_at m.memory 0x30000000) r.view can.hosted can.runs (stored_kept h place (m.regs 0) can g.in_heap) in
    let e = g.ends in
    let to = e.to in
    let R = e.returned in
    let here : add (m.regs 31) 8 ≡ ending_stub = omega (arith, end.returns) in
    let stands : StandsAt to ending_stub = record { here = R.stands.here ∙ here; next = R.stands.next ∙ ap (λ y. y + 4) here } in
    let stub = (let P : Words → Type 0 = λ y. At y ending_stub (Trap 9 ∷ []) in subst P (sym R.memory_is) still.hosted.stub) in
    let a : IsCodeFrom ending_stub (suc 0) = record { aligned = refl; from = omega arith; to = omega arith } in
    let empty : callers_of h r.view.older ≡ [] = ap (callers_of h) last ∙ none_seen (descriptor_at h) m.memory (m.regs 30) (frame_before m.memory (m.regs 30) m.older) (m.regs 31 + 8) (but_first m.older) in
    let thread = answered_to (callers_of h r.view.older) answer in
    let threads : threads_from (ended h to) 0 (slice_set h.statuses h.current (Answered (to.regs 8))) ≡ slice_set (threads_from h 0 h.statuses) h.current thread =
    threads_end h1 to 0 h.current h.statuses (Waiting r.view.sp r.view.pc r.view.known) (to.regs 8) R.memory_is (omega arith) r.view.running
    ∙ ap (λ y. slice_set y h.current (Answer (to.regs 8))) (threads_set h h1 0 h.current h.statuses r.view.sp r.view.pc r.view.known refl (omega arith) r.view.running still.waits)
    ∙ set_set (threads_from h 0 h.statuses) h.current (Going (seen h1)) (Answer (to.regs 8))
    ∙ ap (λ y. slice_set (threads_from h 0 h.statuses) h.current (Answer y)) R.answer_is
    ∙ ap (λ y. slice_set (threads_from h 0 h.statuses) h.current (answered_to y answer)) (sym empty) in
    let counted : h.steps + to.regs 2 ≡ h.steps + m.regs 2 + 1 = omega (arith, R.counted, can.left, can.hosted.goal) in
    let after : Raw = record (becomes (raw_of h) thread) { mem = heap_words memory } in
    let shows : raw_of (ended h to) ≡ after = λ i. record {
      maps = h.maps;
      mem = ap heap_words R.memory_is i;
      heap = record { top = R.top i; next = h.next };
      threads = threads i;
      current = h.current;
      steps = counted i;
      cost = ap (λ y. h.cost + y) R.cost i;
    } in
    let windows = (let P : List Window → Type 0 = λ y. All IsWindow y in subst P (sym R.older) (rest_windows m.older can.hosted.windows)) in
    record {
      instructions = e.instructions;
      few = omega (arith, e.few);
      to = to;
      goes = e.goes;
      trap = at_trap to ending_stub (ending_stub + 4) 0 9 (Trap 9) stands a stub.0 refl tt;
      left = ap (λ y. word_at y 0x30000004) R.memory_is ∙ stored_left m.memory place (m.regs 0) g.in_heap;
      top = R.top;
      cost = R.cost;
      sense = g.raw.to;
      hosted = hosted_same h1 to R.memory_is (R.register_0 ∙ can.hosted.register_0) windows still.hosted;
      stands = stands_after z h (ended h to) s after f shows refl refl refl g.raw;
      counted = sym g.raw.stands.steps ∙ ap (λ y. y + 1) f.stands.steps;
      silent = g.raw.same;
    }

pub return_ends : EndsOldest nodes.Return
return_ends z h s b n f r can last =
    by_context (owns_context (body_in h.bodies b)) (λ owns. own_ends nodes.Return (inr refl) return_is return_has z h s b n f r can owns last) (λ plain. last_return z h s b n f r can plain last)

pub end_ends : EndsOldest nodes.End
end_ends z h s b n f r can last =
    by_context (owns_context (body_in h.bodies b)) (λ owns. own_ends nodes.End (inl refl) end_is end_has z h s b n f r can owns last) (λ plain. last_end z h s b n f r can plain last)
