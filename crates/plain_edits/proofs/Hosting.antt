-- The host is sound where an edit was made, and its frames show what they did.
use Rattle.std.proofs.Common.{◌≡◌, ◌≢◌, ℕ, suc, ◌+◌, ◌*◌, ◌/◌, ◌≤◌, refl, ◌∙◌, ap, sym, subst, arith, inl}
use Rattle.std.specs.Prelude.{nat_lt, if◌then◌else◌, [], ◌∷◌, Some, slice_get}
use Rattle.std.proofs.lemmas.Grind.{common_steps}
use Rattle.self_terms.specs.declared.bodies.Body.{Body}
use Rattle.self_terms.specs.declared.nodes.Node.{Node}
use Rattle.sparc_insn.specs.declared.insn.Insn.TheVariants.{Trap}
use Rattle.sparc_store.specs.Words.{Words, IsWithin}
use Rattle.sparc_store.specs.Windows.{Frame as Window, with_reg, kept, saved_at, frame_before, but_first}
use Rattle.source_model.specs.Soundness.{HasBody}
use Rattle.frame_walk.specs.Walk.{activations, AreLaid}
use Rattle.frame_walk.proofs.Resting.{laid_as, before_same}
use Rattle.plain_runs.specs.Host.{Host, descriptor_at, seen, waiting, threads_from}
use Rattle.plain_runs.specs.declared.status.Status.TheVariants.{Waiting}
use Rattle.plain_runs.specs.Units.{IsInPoll}
use Rattle.plain_runs.specs.Sound.{IsCaller, IsHeld, Calls, Polls, CanTakeUp, InFrame, RunsAt, IsHosted, entry_frame, ending_stub}
use Rattle.plain_runs.specs.Course.{AllRun}
use Rattle.plain_runs.proofs.Taking.{take_up_kept}
use Rattle.plain_runs.proofs.Working.{held_have_room, same_stack}
use Rattle.plain_begins.specs.Begins.{CanPark, AtPoll, Idle}
use Rattle.plain_units.proofs.Points.{at_same}
use Rattle.plain_units.proofs.Passing.{threads_same, thread_same}
use Rattle.plain_edits.specs.Heaps.{texts_words}
use Rattle.plain_edits.specs.Edits.{Edit, with_edit}
use Rattle.plain_edits.proofs.Passing.{Ground, same_body, units_in, poll_in, roomy_in, caller_in, above, high_same, Kept, kept_in, callers_in, saved_in}

-- the frame in view, at a poll, and its callers, as frames that are held
view_laid : (h : Host) (b n : ℕ) (node : Node) → AllRun h → (r : RunsAt h b n node)
    → AreLaid (IsHeld h) (entry_frame h.current) ending_stub h.machine.memory (suc r.view.older) (h.machine.regs 14) (kept h.machine.regs) h.machine.pc h.machine.older
unfolding AreLaid
view_laid h b n node run r =
    let m = h.machine in
    let p = r.poll in
    let at_poll : IsInPoll h m.pc b n = record { at = p.at; word = 0; unit = p.unit; inside = p.inside; within = omega arith; address = omega (arith, p.address) } in (
      Polls b n at_poll (run b) r.view.frame,
      laid_as (IsCaller h) (IsHeld h) (entry_frame h.current) ending_stub m.memory r.view.older (m.regs 30) (frame_before m.memory (m.regs 30) m.older) (m.regs 31 + 8) (but_first m.older) (λ q a f x. Calls x) r.view.callers,
    )

stack_high : (k sp : ℕ) → sp / 0x02000000 ≡ entry_frame k / 0x02000000 → 0x40000000 ≤ sp
stack_high k sp e = omega (arith, e)

-- the registers of the window stay where the top of the heap moves
high : (regs : ℕ → ℕ) (n k : ℕ) → with_reg regs 6 n (k + 16) ≡ regs (k + 16)
high regs n k = grind (arith, common_steps)

kept_same : (regs : ℕ → ℕ) (n : ℕ) → kept (with_reg regs 6 n) ≡ kept regs
kept_same regs n = λ i k. if nat_lt k 16 then high regs n k i else 0

module _ (h : Host) (e : Edit) (memory : Words) (g : Ground h e memory) (hosted : IsHosted h) (within : IsWithin memory) where
  abbrev to : Host
  to = with_edit e memory h

  others_high : (k sp pc n : ℕ) → slice_get h.statuses k ≡ Some (Waiting sp pc n) → k ≢ h.current → 0x40000000 ≤ sp
  others_high k sp pc n is ne =
      stack_high k sp (same_stack (descriptor_at h) (IsHeld h) (entry_frame k) ending_stub h.machine.memory n sp (saved_at h.machine.memory sp) pc [] (held_have_room h g.run) (hosted.others k sp pc n is ne))

  others_kept : (k sp pc n : ℕ) → slice_get h.statuses k ≡ Some (Waiting sp pc n) → k ≢ h.current → Kept h e memory g (entry_frame k) n sp pc (saved_at h.machine.memory sp) []
  others_kept k sp pc n is ne = kept_in h e memory g (entry_frame k) n sp pc (saved_at h.machine.memory sp) [] (others_high k sp pc n is ne) (hosted.others k sp pc n is ne)

  take_up_in : (k sp pc count : ℕ) → CanTakeUp h memory k sp pc count → CanTakeUp to memory k sp pc count
  take_up_in k sp pc count a = record {
    body = a.body;
    number = a.number;
    poll = poll_in h e memory g pc a.body a.number a.poll;
    frame = roomy_in h e memory g a.body sp (saved_at memory sp 14) (a.poll.unit.given, a.poll.unit.known) a.frame;
    older = a.older;
    counted = a.counted;
    few = a.few;
    callers = laid_as (IsCaller h) (IsCaller to) (entry_frame k) ending_stub memory a.older (saved_at memory sp 14) (saved_at memory (saved_at memory sp 14)) (saved_at memory sp 15 + 8) [] (caller_in h e memory g) a.callers;
  }

  pub hosted_in : IsHosted to
  hosted_in = record {
    within = within;
    register_0 = hosted.register_0;
    windows = hosted.windows;
    units = units_in h e memory g hosted.units;
    stub = at_same (Trap 9 ∷ []) h.machine.memory memory ending_stub (λ a low. g.outside a (inl (omega (arith, low)))) hosted.stub;
    activities = hosted.activities;
    others = λ k sp pc n is ne.
        (let P : Window → Type 0 = λ w. AreLaid (IsHeld to) (entry_frame k) ending_stub memory n sp w pc [] in subst P (sym (saved_in h e memory g sp (others_high k sp pc n is ne))) (others_kept k sp pc n is ne).laid);
    parked = λ k sp pc n is ne.
        take_up_in k sp pc n (take_up_kept h (held_have_room h g.run) h.machine.memory memory k sp pc n (high_same h e memory g sp (entry_frame k + 64) (others_high k sp pc n is ne)) (hosted.parked k sp pc n is ne));
    goal = omega (arith, above h e memory g 0x30000000 (omega arith), hosted.goal);
  }

  module _ (b n : ℕ) (node : Node) (r : RunsAt h b n node) where
    has : HasBody h.bodies b
    has = (r.poll.unit.given, r.poll.unit.known)

    view_in : InFrame to b
    view_in =
        let m = h.machine in
        let v = r.view in
        let high : 0x40000000 ≤ m.regs 30 = omega (arith, v.frame.place.1, v.frame.ends) in
        let before : frame_before memory (m.regs 30) m.older ≡ frame_before m.memory (m.regs 30) m.older = before_same m.memory memory (m.regs 30) m.older (λ a low top. above h e memory g a (omega (arith, low, high))) in
        let laid = callers_in h e memory g (entry_frame h.current) v.older (m.regs 30) (m.regs 31 + 8) (frame_before m.memory (m.regs 30) m.older) (but_first m.older) high v.callers in
        record {
          sp = v.sp;
          pc = v.pc;
          known = v.known;
          running = v.running;
          frame = roomy_in h e memory g b (m.regs 14) (m.regs 30) has v.frame;
          older = v.older;
          count = v.count;
          few = v.few;
          held = v.held;
          callers = (let P : Window → Type 0 = λ w. AreLaid (IsCaller to) (entry_frame h.current) ending_stub memory v.older (m.regs 30) w (m.regs 31 + 8) (but_first m.older) in subst P (sym before) laid);
        }

    pub runs_in : RunsAt to b n node
    runs_in = record {
      view = view_in;
      stands = record { here = r.stands.here; next = r.stands.next };
      poll = poll_in h e memory g h.machine.pc b n r.poll;
      node_is = ap (λ (x : Body). slice_get x.nodes n) (same_body h e memory g b has) ∙ r.node_is;
    }

    pub seen_in : seen to ≡ seen h
    seen_in =
        let m = h.machine in
        let all = kept_in h e memory g (entry_frame h.current) (suc r.view.older) (m.regs 14) m.pc (kept m.regs) m.older (r.view.frame.place.1) (view_laid h b n node g.run r) in
        ap (λ (w : Window). activations (descriptor_at to) memory (m.regs 4) (m.regs 14) w m.pc m.older) (kept_same m.regs (m.regs 6 + 4 * texts_words e.text.strings))
        ∙ ap (λ k. activations (descriptor_at to) memory k (m.regs 14) (kept m.regs) m.pc m.older) r.view.count
        ∙ all.shows
        ∙ sym (ap (λ k. activations (descriptor_at h) m.memory k (m.regs 14) (kept m.regs) m.pc m.older) r.view.count)

  waits_in : (k sp pc count : ℕ) → slice_get h.statuses k ≡ Some (Waiting sp pc count) → k ≢ h.current → waiting to sp pc count ≡ waiting h sp pc count
  waits_in k sp pc count is ne =
      ap (λ w. activations (descriptor_at to) memory count sp w pc []) (saved_in h e memory g sp (others_high k sp pc count is ne)) ∙ (others_kept k sp pc count is ne).shows

  threads_by : ((sp pc count : ℕ) → slice_get h.statuses h.current ≡ Some (Waiting sp pc count) → seen to ≡ seen h) → threads_from to 0 h.statuses ≡ threads_from h 0 h.statuses
  threads_by now =
      threads_same h to 0 h.statuses (λ j s is. thread_same h to (0 + j) s refl (λ same sp pc count st. now sp pc count (ap (slice_get h.statuses) (sym same) ∙ ap (slice_get h.statuses) (omega arith) ∙ is ∙ ap Some st))
      (λ ne sp pc count st. waits_in j sp pc count (is ∙ ap Some st) (λ same. ne (omega (arith, same)))))

  pub threads_in : CanPark h → threads_from to 0 h.statuses ≡ threads_from h 0 h.statuses
  threads_in (AtPoll b n node r) = threads_by (λ sp pc count is. seen_in b n node r)
  threads_in (Idle idle) = threads_by (λ sp pc count is. absurd (idle sp pc count is))

  pub parks_in : CanPark h → CanPark to
  parks_in (AtPoll b n node r) = AtPoll b n node (runs_in b n node r)
  parks_in (Idle idle) = Idle idle
