-- The oldest activation of an activity ends.
use Rattle.std.proofs.Common.{◌≡◌, ◌≢◌, ◌⊎◌, ℕ, zero, suc, ◌+◌, ◌-◌, ◌%◌, ◌<◌, ◌==◌, refl, ◌∙◌, ap, sym, subst, arith, inl, inr}
use Rattle.std.specs.Prelude.{false, if◌then◌else◌, List, [], ◌∷◌, Some, slice_get, slice_set, get_or, All}
use Rattle.std.proofs.lemmas.Grind.{common_steps}
use Rattle.self_terms.specs.declared.nodes.Node.{Node}
use Rattle.self_terms.specs.declared.nodes.Node.TheVariants as nodes
use Rattle.self_terms.specs.Depths.{depth, depth_from}
use Rattle.sparc_insn.specs.declared.insn.Insn.{Insn}
use Rattle.sparc_insn.specs.declared.insn.Insn.TheVariants.{Trap}
use Rattle.sparc_store.specs.Words.{Words, word_at}
use Rattle.sparc_store.specs.Windows.{Frame as Window, IsPlace, saved_at, frame_before, but_first}
use Rattle.sparc_machine.specs.State.{MachineState}
use Rattle.sparc_machine.specs.Alu.{add}
use Rattle.source_model.specs.Soundness.{body_in}
use Rattle.source_model.specs.Step.{step}
use Rattle.heap_cells.specs.Source.{Plain as without}
use Rattle.frame_walk.specs.Places.{Descriptor, pending_offset}
use Rattle.frame_walk.specs.Raw.{Going, Answered as Answer, Raw, becomes, answered_to}
use Rattle.frame_walk.specs.Walk.{AreLaid, activations}
use Rattle.raw_steps.specs.Stands.{Stands}
use Rattle.raw_steps.proofs.Leaving.{plain_leaves}
use Rattle.raw_steps.proofs.Answers.{answers_is}
use Rattle.plain_words.specs.Going.{At, StandsAt, IsCodeFrom}
use Rattle.plain_words.specs.Code.{return_code}
use Rattle.plain_words.specs.Moves.{IsReady, CanReturn}
use Rattle.plain_words.specs.Showing.{viewed}
use Rattle.plain_words.specs.Units.{frame_locals, frame_words, owns_context}
use Rattle.plain_words.proofs.Basics.{at_trap}
use Rattle.plain_words.proofs.Returning.{return_does}
use Rattle.plain_runs.specs.Host.{Host, seen, waiting, thread_of, threads_from, raw_of, descriptor_at, heap_words}
use Rattle.plain_runs.specs.declared.status.Status.{Status}
use Rattle.plain_runs.specs.declared.status.Status.TheVariants.{Waiting, Answered, Failed}
use Rattle.plain_runs.specs.Sound.{IsWindow, InFrame, IsCaller, RunsAt, callers_of, entry_frame, ending_stub}
use Rattle.plain_runs.specs.Course.{with_machine, CanGo, code_at}
use Rattle.plain_runs.proofs.Ready.{ready_at}
use Rattle.plain_runs.specs.Services.{answered}
use Rattle.plain_runs.proofs.Popping.{hosted_same, rest_windows}
use Rattle.plain_steps.specs.Steps.{WordsEnd}
use Rattle.plain_steps.proofs.Here.{at_node_of}
use Rattle.plain_steps.proofs.Words.{depth_is, room_of, stands_after, step_counted}
use Rattle.plain_steps.proofs.Answering.{no_context, wants_none, some_pending, youngest_is}

-- the host when the current activity has answered
abbrev ended : Host → MachineState → Host
ended h m = answered (with_machine h m)

no_callers : (asked : ℕ → ℕ → ℕ → Type 0) (entry end : ℕ) (memory : Words) (sp : ℕ) (w : Window) (pc : ℕ) (held : List Window) → AreLaid asked entry end memory 0 sp w pc held → (sp ≡ entry) × (pc ≡ end)
unfolding AreLaid
no_callers asked entry end memory sp w pc held l = l

none_seen : (d : ℕ → Descriptor) (memory : Words) (sp : ℕ) (w : Window) (pc : ℕ) (held : List Window) → activations d memory 0 sp w pc held ≡ []
unfolding activations
none_seen d memory sp w pc held = refl

-- where the oldest activation returns to
pub record AtEnd (m : MachineState) (current : ℕ) : Type 0 where
  pub frame : m.regs 30 ≡ entry_frame current
  pub returns : m.regs 31 + 8 ≡ ending_stub

at_end : (h : Host) (b : ℕ) → (r : InFrame h b) → r.older ≡ 0 → AtEnd h.machine h.current
at_end h b r none =
    let m = h.machine in
    let w : Window = frame_before m.memory (m.regs 30) m.older in
    let callers = (let P : ℕ → Type 0 = λ z. AreLaid (IsCaller h) (entry_frame h.current) ending_stub m.memory z (m.regs 30) w (m.regs 31 + 8) (but_first m.older) in subst P none r.callers) in
    let l = no_callers (IsCaller h) (entry_frame h.current) ending_stub m.memory (m.regs 30) w (m.regs 31 + 8) (but_first m.older) callers in
    record { frame = l.0; returns = l.1 }

can_end : (h : Host) → AtEnd h.machine h.current → h.current < 4 → CanReturn h.machine
can_end h e low =
    let m = h.machine in
    let same : add (m.regs 31) 8 ≡ ending_stub = omega (arith, e.returns) in
    record {
      aligned = ap (λ z. z % 4) same;
      within = omega (arith, same);
      place = λ none. (let P : ℕ → Type 0 = IsPlace in subst P (sym e.frame) (omega arith, omega arith, omega (arith, low), omega (arith, low)));
    }

-- Threads, where the current activity has answered.
other : (a b : ℕ) → a ≢ b → (a == b) ≡ false
other a b ne = grind (arith, common_steps)

thread_after : (h : Host) (m : MachineState) (k : ℕ) (s : Status) → m.memory ≡ h.machine.memory → k ≢ h.current → thread_of (ended h m) k s ≡ thread_of h k s
unfolding descriptor_at
thread_after h m k (Waiting sp pc n) e ne =
    ap (λ b. Going (if b then seen (ended h m) else waiting (ended h m) sp pc n)) (other k h.current ne)
    ∙ ap (λ z. Going (activations (descriptor_at h) z n sp (saved_at z sp) pc [])) e
    ∙ sym (ap (λ b. Going (if b then seen h else waiting h sp pc n)) (other k h.current ne))
thread_after h m k (Answered w) e ne = refl
thread_after h m k (Failed x p) e ne = refl

threads_after : (h : Host) (m : MachineState) (from : ℕ) (ss : List Status) → m.memory ≡ h.machine.memory → h.current < from → threads_from (ended h m) from ss ≡ threads_from h from ss
threads_after h m from [] e low = refl
threads_after h m from (s ∷ ss) e low =
    ap (λ t. t ∷ threads_from (ended h m) (from + 1) ss) (thread_after h m from s e (λ same. absurd (omega (arith, same, low))))
    ∙ ap (λ ts. thread_of h from s ∷ ts) (threads_after h m (from + 1) ss e (omega arith))

threads_end : (h : Host) (m : MachineState) (from c : ℕ) (ss : List Status) (s : Status) (w : ℕ) → m.memory ≡ h.machine.memory → h.current ≡ from + c → slice_get ss c ≡ Some s
    → threads_from (ended h m) from (slice_set ss c (Answered w)) ≡ slice_set (threads_from h from ss) c (Answer w)
threads_end h m from c [] s w e at is = absurd (cc)
threads_end h m from zero (x ∷ ss) s w e at is = ap (λ ts. Answer w ∷ ts) (threads_after h m (from + 1) ss e (omega (arith, at)))
threads_end h m from (suc c) (x ∷ ss) s w e at is =
    ap (λ t. t ∷ threads_from (ended h m) (from + 1) (slice_set ss c (Answered w))) (thread_after h m from x e (λ same. absurd (omega (arith, same, at))))
    ∙ ap (λ ts. thread_of h from x ∷ ts) (threads_end h m (from + 1) c ss s w e (omega (arith, at)) is)

last_steps : (node : Node) → (node ≡ nodes.End) ⊎ (node ≡ nodes.Return) → ((h : Host) (b n : ℕ) → code_at h b n node ≡ return_code (owns_context (body_in h.bodies b)) (frame_locals (body_in h.bodies b)) (depth_from 0 (body_in h.bodies b).nodes n - 1))
    → ((h : Host) (b n : ℕ) → CanGo h → RunsAt h b n node → 0 < depth (body_in h.bodies b).nodes n) → WordsEnd node
last_steps node ends code some z h s b n f r can plain last =
    let m = h.machine in
    let x = body_in h.bodies b in
    let locals = frame_locals x in
    let k = depth_from 0 x.nodes n in
    let j = k - 1 in
    let at = at_node_of z h s b n node f r in
    let more = some h b n can r in
    let one : depth x.nodes n ≡ suc j = omega (arith, depth_is x.nodes n, more) in
    let answer = word_at m.memory (m.regs 14 + pending_offset locals j) in
    let end = at_end h b r.view last in
    let ready = (let P : List Insn → Type 0 = λ c. IsReady m m.pc (frame_words x) c in subst P (code h b n ∙ ap (λ y. return_code y locals j) plain) (ready_at h b n node r can.left)) in
    let e = return_does m m.pc (frame_words x) false locals j ready (omega (arith, room_of h b n can)) tt (can_end h end can.current) in
    let to = e.to in
    let R = e.returned in
    let here : add (m.regs 31) 8 ≡ ending_stub = omega (arith, end.returns) in
    let stands : StandsAt to ending_stub = record { here = R.stands.here ∙ here; next = R.stands.next ∙ ap (λ y. y + 4) here } in
    let stub = (let P : Words → Type 0 = λ y. At y ending_stub (Trap 9 ∷ []) in subst P (sym R.memory_is) can.hosted.stub) in
    let a : IsCodeFrom ending_stub (suc 0) = record { aligned = refl; from = omega arith; to = omega arith } in
    let v = viewed m b n locals (depth x.nodes n) in
    let kind_is : at.first.kind ≡ without = no_context z at.young v at.first.kind (sym at.first.wanted ∙ wants_none h s b at.young.body f.bodies at.first.body plain) at.first.locals in
    let none : v.context ≡ 0 = f.stands.heap.means.context at.young.number v.context without at.first.context (at.first.made ∙ ap Some kind_is) in
    let raw = plain_leaves (raw_of h) s z f.stands at.young at.older v (callers_of h r.view.older) node at.at none (some_pending z.cells z.places at.young.pending m b n locals (depth x.nodes n) j one at.first.pending) (answers_is s at.young at.older node ends) in
    let empty : callers_of h r.view.older ≡ [] = ap (callers_of h) last ∙ none_seen (descriptor_at h) m.memory (m.regs 30) (frame_before m.memory (m.regs 30) m.older) (m.regs 31 + 8) (but_first m.older) in
    let word : to.regs 8 ≡ get_or v.pending 0 0 = R.answer_is ∙ sym (youngest_is m b n locals (depth x.nodes n) j one) in
    let threads : threads_from (ended h to) 0 (slice_set h.statuses h.current (Answered (to.regs 8))) ≡ slice_set (threads_from h 0 h.statuses) h.current (answered_to (callers_of h r.view.older) (get_or v.pending 0 0)) =
    threads_end h to 0 h.current h.statuses (Waiting r.view.sp r.view.pc r.view.known) (to.regs 8) R.memory_is (omega arith) r.view.running
    ∙ ap (λ y. slice_set (threads_from h 0 h.statuses) h.current (Answer y)) word
    ∙ ap (λ y. slice_set (threads_from h 0 h.statuses) h.current (answered_to y (get_or v.pending 0 0))) (sym empty) in
    let counted : h.steps + to.regs 2 ≡ h.steps + m.regs 2 + 1 = omega (arith, R.counted, can.left, can.hosted.goal) in
    let is : raw_of (ended h to) ≡ becomes (raw_of h) (answered_to (callers_of h r.view.older) (get_or v.pending 0 0)) = λ i. record {
      maps = h.maps;
      mem = ap heap_words R.memory_is i;
      heap = record { top = R.top i; next = h.next };
      threads = threads i;
      current = h.current;
      steps = counted i;
      cost = ap (λ y. h.cost + y) R.cost i;
    } in
    let thread = answered_to (callers_of h r.view.older) (get_or v.pending 0 0) in
    let windows = (let P : List Window → Type 0 = λ y. All IsWindow y in subst P (sym R.older) (rest_windows m.older can.hosted.windows)) in
    record {
      instructions = e.instructions;
      few = omega (arith, e.few);
      to = to;
      goes = e.goes;
      trap = at_trap to ending_stub (ending_stub + 4) 0 9 (Trap 9) stands a stub.0 refl tt;
      left = ap (λ y. word_at y 0x30000004) R.memory_is;
      top = R.top;
      cost = R.cost;
      sense = raw.to;
      hosted = hosted_same h to R.memory_is (R.register_0 ∙ can.hosted.register_0) windows can.hosted;
      stands = stands_after z h (ended h to) s (becomes (raw_of h) thread) f is refl refl refl raw;
      counted = step_counted z h s thread f raw;
      silent = raw.same;
    }

pub last_return : WordsEnd nodes.Return
last_return = last_steps nodes.Return (inr refl) (λ h b n. refl) (λ h b n can r. (can.runs b).takes n nodes.Return r.node_is)

pub last_end : WordsEnd nodes.End
last_end = last_steps nodes.End (inl refl) (λ h b n. refl) (λ h b n can r. (can.runs b).takes n nodes.End r.node_is)
