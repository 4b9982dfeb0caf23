-- What is in view when an activation has begun.
use Rattle.std.proofs.Common.{◌≡◌, ℕ, suc, ◌+◌, ◌-◌, ◌*◌, ◌%◌, ◌^◌, ◌<◌, ◌≤◌, refl, ◌∙◌, ap, sym, subst, arith}
use Rattle.std.specs.Prelude.{List, [], ◌∷◌, length}
use Rattle.self_terms.specs.declared.nodes.Node.{Node}
use Rattle.self_terms.specs.Depths.{taken, depth}
use Rattle.sparc_store.specs.Words.{Words, HasFrame}
use Rattle.sparc_store.specs.Windows.{Frame as Window, kept, frame_before, but_first, but_spilled}
use Rattle.sparc_machine.specs.State.{MachineState}
use Rattle.source_model.specs.Soundness.{body_in}
use Rattle.frame_walk.specs.Places.{Descriptor, shown, plain_descriptor}
use Rattle.frame_walk.specs.Walk.{activations, AreLaid}
use Rattle.frame_walk.proofs.Resting.{laid_as}
use Rattle.plain_words.specs.Going.{StandsAt}
use Rattle.plain_words.specs.Showing.{viewed}
use Rattle.plain_words.specs.Units.{frame_locals, frame_words}
use Rattle.plain_runs.specs.Host.{Host, descriptor_at}
use Rattle.plain_runs.specs.Sound.{IsCaller, InFrame, callers_of, entry_frame, ending_stub}
use Rattle.plain_runs.specs.Course.{with_machine}
use Rattle.plain_runs.proofs.Keeping.{caller_kept}
use Rattle.plain_runs.proofs.Pointed.{call_descriptor}
use Rattle.plain_runs.proofs.Working.{same_descriptors}
use Rattle.plain_evaluates.proofs.Called.{IsCalled, place_below, place_there, place_is}
use Rattle.plain_evaluates.proofs.Saved.{Shape, frame_of, memory_after, after}
use Rattle.plain_evaluates.proofs.Others.{HasEntered, code_after}

-- An activation has begun: its frame is in view, and that of its caller is the youngest of the older ones.
pub record HasBegun (h : Host) (c p : ℕ) (x : Shape) (to : MachineState) : Type 0 where
  pub stands : StandsAt to p
  pub memory_is : to.memory ≡ memory_after h c x
  pub receiver : to.regs 24 ≡ x.receiver
  pub outer : to.regs 16 ≡ x.outer
  pub context : to.regs 17 ≡ x.context
  pub frame : to.regs 14 ≡ place_below h c
  pub caller : to.regs 30 ≡ h.machine.regs 14
  pub returns : to.regs 31 ≡ h.machine.regs 15
  pub activations : to.regs 4 ≡ (h.machine.regs 4 + 1) % 2 ^ 32
  pub register_0 : to.regs 0 ≡ 0
  pub older : to.older ≡ kept h.machine.regs ∷ but_spilled h.machine.older

pub has_entered : (h : Host) (c p : ℕ) (x : Shape) (to : MachineState) → HasBegun h c p x to → HasEntered h c x to
has_entered h c p x to e = record { memory_is = e.memory_is; register_0 = e.register_0; older = e.older }

pub begun_shown : (h : Host) (b n c at p : ℕ) (node : Node) → IsCalled h b n c at node → (x : Shape) → length x.locals ≡ frame_locals (body_in h.bodies c) → (to : MachineState) → HasBegun h c p x to
    → viewed to c 0 (frame_locals (body_in h.bodies c)) 0 ≡ frame_of c (place_below h c) x
begun_shown h b n c at p node q x long to e =
    let new = memory_after h c x in
    let place = place_below h c in
    let locals = frame_locals (body_in h.bodies c) in
    let window = kept to.regs in
    ap (λ z. shown z window (to.regs 14) (plain_descriptor c 0 locals 0)) e.memory_is
    ∙ ap (λ z. shown new window z (plain_descriptor c 0 locals 0)) e.frame
    ∙ ap (λ k. shown new window place (plain_descriptor c 0 k 0)) (sym long)
    ∙ (after h b n c at node q x long).shows window
    ∙ (λ i. record { body = c; next = 0; receiver = e.receiver i; holder = x.holder; outer = e.outer i; context = e.context i; mark = place; locals = x.locals; pending = [] })

first_seen : (d : ℕ → Descriptor) (memory : Words) (n sp : ℕ) (w : Window) (pc : ℕ) (held : List Window)
    → activations d memory (suc n) sp w pc held ≡ shown memory w sp (d pc) ∷ activations d memory n (w 14) (frame_before memory (w 14) held) (w 15 + 8) (but_first held)
unfolding activations
first_seen d memory n sp w pc held = refl

-- the sender and those behind it, before the SAVE
pub sender_seen : (h : Host) (b n c at : ℕ) (node : Node) → (q : IsCalled h b n c at node)
    → activations (descriptor_at h) h.machine.memory (suc q.view.older) (h.machine.regs 14) (kept h.machine.regs) (h.machine.regs 15 + 8) h.machine.older
    ≡ viewed h.machine b n (frame_locals (body_in h.bodies b)) (depth (body_in h.bodies b).nodes n - taken node) ∷ callers_of h q.view.older
sender_seen h b n c at node q =
    let m = h.machine in
    first_seen (descriptor_at h) m.memory q.view.older (m.regs 14) (kept m.regs) (m.regs 15 + 8) m.older
    ∙ ap (λ y. shown m.memory (kept m.regs) (m.regs 14) y ∷ callers_of h q.view.older) (call_descriptor h (m.regs 15 + 8) b n node q.behind)

-- the sender waits behind its call, and the others behind it
pub callers_shown : (h : Host) (b n c at p : ℕ) (node : Node) → (q : IsCalled h b n c at node) → (x : Shape) → length x.locals ≡ frame_locals (body_in h.bodies c) → (to : MachineState) → HasBegun h c p x to
    → callers_of (with_machine h to) (suc q.view.older) ≡ viewed h.machine b n (frame_locals (body_in h.bodies b)) (depth (body_in h.bodies b).nodes n - taken node) ∷ callers_of h q.view.older
callers_shown h b n c at p node q x long to e =
    let m = h.machine in
    let o = suc q.view.older in
    let d = descriptor_at h in
    let new = memory_after h c x in
    ap (λ f. activations f to.memory o (to.regs 30) (frame_before to.memory (to.regs 30) to.older) (to.regs 31 + 8) (but_first to.older)) (same_descriptors h to)
    ∙ ap (λ z. activations d z o (to.regs 30) (frame_before z (to.regs 30) to.older) (to.regs 31 + 8) (but_first to.older)) e.memory_is
    ∙ ap (λ y. activations d new o y (frame_before new y to.older) (to.regs 31 + 8) (but_first to.older)) e.caller
    ∙ ap (λ y. activations d new o (m.regs 14) (frame_before new (m.regs 14) to.older) (y + 8) (but_first to.older)) e.returns
    ∙ ap (λ z. activations d new o (m.regs 14) (frame_before new (m.regs 14) z) (m.regs 15 + 8) (but_first z)) e.older
    ∙ (after h b n c at node q x long).callers
    ∙ sender_seen h b n c at node q

-- the new frame is in view
pub record InView (h : Host) (c older : ℕ) (to : MachineState) : Type 0 where
  pub view : InFrame (with_machine h to) c
  pub deep : view.older ≡ suc older

pub view_after : (h : Host) (b n c at p : ℕ) (node : Node) → (q : IsCalled h b n c at node) → suc q.view.older < 4096 → (x : Shape) → length x.locals ≡ frame_locals (body_in h.bodies c) → (to : MachineState) → HasBegun h c p x to → InView h c q.view.older to
view_after h b n c at p node q few x long to e =
    let m = h.machine in
    let v = q.view in
    let o = suc v.older in
    let body = body_in h.bodies c in
    let new = memory_after h c x in
    let h2 = with_machine h to in
    let a = after h b n c at node q x long in
    let low = code_after h b n c at node q x long to (has_entered h c p x to e) in
    let held : List Window = kept m.regs ∷ but_spilled m.older in
    let laid = laid_as (IsCaller h) (IsCaller h2) (entry_frame h.current) ending_stub new o (m.regs 14) (kept m.regs) (m.regs 15 + 8) (but_spilled m.older) (λ u s f y. caller_kept h to u s f low y) a.laid in
    let P : Words → ℕ → ℕ → List Window → Type 0 = λ z f y w. AreLaid (IsCaller h2) (entry_frame h.current) ending_stub z o f (frame_before z f w) (y + 8) (but_first w) in
    record {
      view = record {
        sp = v.sp;
        pc = v.pc;
        known = v.known;
        running = v.running;
        frame = record { ends = e.caller ∙ place_is h b n c at node q ∙ ap (λ z. z + 4 * frame_words body) (sym e.frame); place = (let Q : ℕ → Type 0 = λ z. HasFrame z (frame_words body) in subst Q (sym e.frame) (place_there h b n c at node q)) };
        older = o;
        count = e.activations ∙ omega (arith, v.count, few);
        few = few;
        held = (let Q : List Window → Type 0 = λ w. length w ≤ suc o in subst Q (sym e.older) a.sound.covers);
        callers =
            subst (λ z. P z (to.regs 30) (to.regs 31) to.older) (sym e.memory_is)
            (subst (λ y. P new y (to.regs 31) to.older) (sym e.caller)
            (subst (λ y. P new (m.regs 14) y to.older) (sym e.returns)
            (subst (λ w. P new (m.regs 14) (m.regs 15) w) (sym e.older) laid)));
      };
      deep = refl;
    }
