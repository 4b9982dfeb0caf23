-- Machine and host once the frames of the current activity are saved.
use Rattle.std.proofs.Common.{◌≡◌, ◌≢◌, ◌⊎◌, ℕ, zero, suc, ◌+◌, ◌/◌, ◌<◌, refl, ◌∙◌, ap, sym, subst, arith, inl, inr}
use Rattle.std.specs.Prelude.{List, [], ◌∷◌, All, length, Some, slice_get, slice_set}
use Rattle.std.proofs.lemmas.List.Elements.{All-nil}
use Rattle.std.proofs.lemmas.Option.{slice_get_within}
use Rattle.sparc_insn.specs.declared.insn.Insn.TheVariants.{Trap}
use Rattle.sparc_store.specs.Words.{Words}
use Rattle.sparc_store.specs.Windows.{Frame as Window, kept, saved_at, frame_before, but_first, flushed}
use Rattle.sparc_store.proofs.SoundStacks.{flush_regs, flush_held}
use Rattle.sparc_machine.specs.State.{stack_of}
use Rattle.source_model.specs.Soundness.{body_in}
use Rattle.frame_walk.specs.Places.{Descriptor}
use Rattle.frame_walk.specs.Raw.{Going}
use Rattle.frame_walk.specs.Walk.{activations, Asked, AreLaid, Frames}
use Rattle.frame_walk.proofs.Resting.{laid_as}
use Rattle.frame_moves.proofs.Spared.{flush_only, low_same}
use Rattle.frame_moves.proofs.Moving.{flush_stays, flush_view_stays, flush_sound, flush_own, flushed_window, others_between, others_stay}
use Rattle.plain_words.specs.Units.{frame_words}
use Rattle.plain_runs.specs.Host.{Host, seen, waiting, threads_from, descriptor_at, heap_words, raw_of}
use Rattle.plain_runs.specs.declared.status.Status.TheVariants.{Waiting}
use Rattle.plain_runs.specs.Sound.{IsRoomy, IsCaller, IsHeld, IsWindow, Calls, Polls, CanTakeUp, InFrame, RunsAt, IsHosted, entry_frame, ending_stub}
use Rattle.plain_runs.specs.Course.{AllRun}
use Rattle.plain_runs.proofs.Keeping.{unit_kept, stub_kept, caller_kept, held_kept, threads_set, OthersWait}
use Rattle.plain_runs.proofs.Taking.{take_up_kept, take_up_on}
use Rattle.plain_runs.proofs.Working.{held_have_room, run_kept, same_descriptors}
use Rattle.plain_show.specs.Showing.{IsAtPoll, StaysAtPoll, flushed_host}
use Rattle.plain_show.proofs.Flushing.{few, entry_place, laid_more, laid_now, sound, stack, low}

-- frames that begin above an address
laid_above : (descs : ℕ → Descriptor) (asked : Asked) (entry end x : ℕ) (memory : Words) (n sp : ℕ) (w : Window) (pc : ℕ) (held : List Window) → Frames descs asked → x < sp → AreLaid asked entry end memory n sp w pc held
    → AreLaid (λ q s f. asked q s f × (x < s)) entry end memory n sp w pc held
unfolding AreLaid
laid_above descs asked entry end x memory zero sp w pc held all lt laid = laid
laid_above descs asked entry end x memory (suc n) sp w pc held all lt laid =
    let f = all pc sp (w 14) laid.0 in
    let ends = f.ends in
    let room = f.room in
    ((laid.0, lt), laid_above descs asked entry end x memory n (w 14) (frame_before memory (w 14) held) (w 15 + 8) (but_first held) all (omega arith) laid.1)

laid_rest : (asked : Asked) (entry end : ℕ) (memory : Words) (n sp : ℕ) (w : Window) (pc : ℕ) (held : List Window) → AreLaid asked entry end memory (suc n) sp w pc held
    → AreLaid asked entry end memory n (w 14) (frame_before memory (w 14) held) (w 15 + 8) (but_first held)
unfolding AreLaid
laid_rest asked entry end memory n sp w pc held laid = laid.1

-- a frame that waits, or the one in view
abbrev InView : Host → Asked
InView h pc sp fp = IsHeld h pc sp fp × ((sp ≡ h.machine.regs 14) ⊎ IsCaller h pc sp fp)

above_is : (h : Host) (pc sp fp : ℕ) → InView h pc sp fp → h.machine.regs 14 < sp → IsCaller h pc sp fp
above_is h pc sp fp v lt = elim v.1 [ inl e ↦ absurd (omega arith) | inr c ↦ c ]

in_view_room : (h : Host) → AllRun h → Frames (descriptor_at h) (InView h)
in_view_room h run pc sp fp v = held_have_room h run pc sp fp v.0

module _ (h : Host) (p : IsAtPoll h) where
  abbrev new : Words
  new = (flushed (stack_of h.machine)).memory

  abbrev to : Host
  to = flushed_host h

  regs_same : to.machine.regs ≡ h.machine.regs
  regs_same = flush_regs (entry_frame h.current) (suc p.runs.view.older) (stack_of h.machine) (sound h p) (stack h p)

  none_held : to.machine.older ≡ []
  none_held = flush_held (entry_frame h.current) (suc p.runs.view.older) (stack_of h.machine) (sound h p) (stack h p)

  view_laid : AreLaid (InView h) (entry_frame h.current) ending_stub h.machine.memory (suc p.runs.view.older) (h.machine.regs 14) (kept h.machine.regs) h.machine.pc h.machine.older
  view_laid =
      let r = p.runs in
      let m = h.machine in
      let q = r.poll in
      let first : InView h m.pc (m.regs 14) (m.regs 30) = (Polls p.body p.number (record { at = q.at; word = 0; unit = q.unit; inside = q.inside; within = omega arith; address = omega (arith, q.address) }) (p.all p.body) r.view.frame, inl refl) in
      laid_more (InView h) (entry_frame h.current) ending_stub m.memory r.view.older (m.regs 14) (kept m.regs) m.pc m.older first
      (laid_as (IsCaller h) (InView h) (entry_frame h.current) ending_stub m.memory r.view.older (m.regs 30) (frame_before m.memory (m.regs 30) m.older) (m.regs 31 + 8) (but_first m.older) (λ pc sp fp c. (Calls c, inr c)) r.view.callers)

  -- the callers, in memory
  callers_saved : AreLaid (IsCaller to) (entry_frame h.current) ending_stub new p.runs.view.older (h.machine.regs 30) (saved_at new (h.machine.regs 30)) (h.machine.regs 31 + 8) []
  callers_saved =
      let r = p.runs in
      let m = h.machine in
      let all = in_view_room h p.all in
      let a = (flush_stays (descriptor_at h) (InView h) (entry_frame h.current) ending_stub (suc r.view.older) m.pc (stack_of m) all (entry_place h.current (few h p)) (sound h p) view_laid).1 in
      let P : Window → Type 0 = λ w. AreLaid (InView h) (entry_frame h.current) ending_stub new r.view.older (w 14) (saved_at new (w 14)) (w 15 + 8) [] in
      let window : saved_at new (m.regs 14) ≡ kept m.regs = flushed_window (entry_frame h.current) (suc r.view.older) (stack_of m) (sound h p) (stack h p) in
      let b : AreLaid (InView h) (entry_frame h.current) ending_stub new r.view.older (m.regs 30) (saved_at new (m.regs 30)) (m.regs 31 + 8) [] =
      subst P window (laid_rest (InView h) (entry_frame h.current) ending_stub new r.view.older (m.regs 14) (saved_at new (m.regs 14)) m.pc [] a) in
      let ends = r.view.frame.ends in
      let words : 0 < frame_words (body_in h.bodies p.body) = (let g = (p.all p.body).room p.number in omega (arith, g)) in
      let d = laid_above (descriptor_at h) (InView h) (entry_frame h.current) ending_stub (m.regs 14) new r.view.older (m.regs 30) (saved_at new (m.regs 30)) (m.regs 31 + 8) [] all (omega (arith, ends, words)) b in
      laid_as (λ q s f. InView h q s f × (m.regs 14 < s)) (IsCaller to) (entry_frame h.current) ending_stub new r.view.older (m.regs 30) (saved_at new (m.regs 30)) (m.regs 31 + 8) []
      (λ pc sp fp v. caller_kept h to.machine pc sp fp (low h p) (above_is h pc sp fp v.0 v.1)) d

  callers_now : AreLaid (IsCaller to) (entry_frame h.current) ending_stub new p.runs.view.older (to.machine.regs 30) (frame_before new (to.machine.regs 30) to.machine.older) (to.machine.regs 31 + 8) (but_first to.machine.older)
  callers_now =
      let P : (ℕ → ℕ) → List Window → Type 0 = λ z held. AreLaid (IsCaller to) (entry_frame h.current) ending_stub new p.runs.view.older (z 30) (frame_before new (z 30) held) (z 31 + 8) (but_first held) in
      subst (λ held. P to.machine.regs held) (sym none_held) (subst (λ z. P z []) (sym regs_same) callers_saved)

  view_now : InFrame to p.body
  view_now =
      let r = p.runs.view in
      let P : (ℕ → ℕ) → Type 0 = λ z. IsRoomy to p.body (z 14) (z 30) in
      let roomy : IsRoomy to p.body (h.machine.regs 14) (h.machine.regs 30) = record { ends = r.frame.ends; place = r.frame.place } in
      let four : to.machine.regs 4 ≡ h.machine.regs 4 = ap (λ (z : ℕ → ℕ). z 4) regs_same in
      record {
        sp = r.sp;
        pc = r.pc;
        known = r.known;
        running = r.running;
        frame = subst P (sym regs_same) roomy;
        older = r.older;
        count = four ∙ r.count;
        few = r.few;
        held = (let e = ap length none_held in omega (arith, e));
        callers = callers_now;
      }

  runs_now : RunsAt to p.body p.number p.node
  runs_now =
      let r = p.runs in
      record {
        view = view_now;
        stands = r.stands;
        poll = record { at = r.poll.at; unit = unit_kept h to.machine p.body r.poll.at (low h p) r.poll.unit; inside = r.poll.inside; address = r.poll.address };
        node_is = r.node_is;
      }

  others_now : (k sp pc count : ℕ) → slice_get h.statuses k ≡ Some (Waiting sp pc count) → k ≢ h.current
      → (activations (descriptor_at h) new count sp (saved_at new sp) pc [] ≡ waiting h sp pc count) × AreLaid (IsHeld h) (entry_frame k) ending_stub new count sp (saved_at new sp) pc []
  others_now k sp pc count is ne =
      let four : k < 4 = omega (arith, slice_get_within h.statuses k (Waiting sp pc count) is, p.hosted.activities) in
      let apart : entry_frame k / 0x02000000 ≢ entry_frame h.current / 0x02000000 = λ e. ne (omega (arith, e)) in
      others_stay (descriptor_at h) (IsHeld h) (entry_frame h.current) (entry_frame k) ending_stub h.machine.memory new count sp pc (held_have_room h p.all) (entry_place k four) apart
      (flush_own (entry_frame h.current) (suc p.runs.view.older) (stack_of h.machine) (sound h p) (stack h p)) (p.hosted.others k sp pc count is ne)

  parked_now : (k sp pc count : ℕ) → slice_get h.statuses k ≡ Some (Waiting sp pc count) → k ≢ h.current → CanTakeUp h new k sp pc count
  parked_now k sp pc count is ne =
      let four : k < 4 = omega (arith, slice_get_within h.statuses k (Waiting sp pc count) is, p.hosted.activities) in
      let apart : entry_frame k / 0x02000000 ≢ entry_frame h.current / 0x02000000 = λ e. ne (omega (arith, e)) in
      let all = held_have_room h p.all in
      take_up_kept h all h.machine.memory new k sp pc count
      (others_between (descriptor_at h) (IsHeld h) (entry_frame h.current) (entry_frame k) ending_stub h.machine.memory new count sp (saved_at h.machine.memory sp) pc [] all (entry_place k four) apart
      (flush_own (entry_frame h.current) (suc p.runs.view.older) (stack_of h.machine) (sound h p) (stack h p)) (p.hosted.others k sp pc count is ne))
      (p.hosted.parked k sp pc count is ne)

  hosted_now : IsHosted to
  hosted_now =
      let o = p.hosted in
      let A : List Window → Type 0 = λ fs. All IsWindow fs in
      record {
        within = (flush_sound (entry_frame h.current) (suc p.runs.view.older) (stack_of h.machine) (sound h p) (stack h p)).whole;
        register_0 = ap (λ (z : ℕ → ℕ). z 0) regs_same ∙ o.register_0;
        windows = subst A (sym none_held) (All-nil IsWindow);
        units = λ b at given e ne. unit_kept h to.machine b at (low h p) (o.units b at given e ne);
        stub = stub_kept (Trap 9 ∷ []) h to.machine ending_stub (low h p) (omega arith) o.stub;
        activities = o.activities;
        others = λ k sp pc count is ne. laid_as (IsHeld h) (IsHeld to) (entry_frame k) ending_stub new count sp (saved_at new sp) pc [] (λ q s f x. held_kept h to.machine q s f (low h p) x) (others_now k sp pc count is ne).1;
        parked = λ k sp pc count is ne. take_up_on h to.machine (low h p) new k sp pc count (parked_now k sp pc count is ne);
        goal = (let e = low_same h.machine.memory new 0x30000000 (flush_only (stack_of h.machine)) (omega arith) in let g = o.goal in omega (arith, e, g));
      }

  seen_same : seen to ≡ seen h
  seen_same =
      let m = h.machine in
      let all = held_have_room h p.all in
      let four : to.machine.regs 4 ≡ suc p.runs.view.older = ap (λ (z : ℕ → ℕ). z 4) regs_same ∙ p.runs.view.count in
      let a = (flush_view_stays (descriptor_at h) (IsHeld h) (entry_frame h.current) ending_stub (suc p.runs.view.older) m.pc (stack_of m) all (entry_place h.current (few h p)) (sound h p) (laid_now h p)).0 in
      ap (λ (d : ℕ → Descriptor). activations d new (to.machine.regs 4) (to.machine.regs 14) (kept to.machine.regs) m.pc to.machine.older) (same_descriptors h to.machine)
      ∙ ap (λ n. activations (descriptor_at h) new n (to.machine.regs 14) (kept to.machine.regs) m.pc to.machine.older) four
      ∙ a
      ∙ ap (λ n. activations (descriptor_at h) m.memory n (m.regs 14) (kept m.regs) m.pc m.older) (sym p.runs.view.count)

  threads_same : threads_from to 0 h.statuses ≡ threads_from h 0 h.statuses
  threads_same =
      let v = p.runs.view in
      let wait : OthersWait h to 0 h.statuses = λ j sp pc n is ne.
      (ap (λ (d : ℕ → Descriptor). activations d new n sp (saved_at new sp) pc []) (same_descriptors h to.machine) ∙ (others_now j sp pc n is (λ e. ne (omega (arith, e)))).0) in
      threads_set h to 0 h.current h.statuses v.sp v.pc v.known refl (omega arith) v.running wait
      ∙ ap (λ fs. slice_set (threads_from h 0 h.statuses) h.current (Going fs)) seen_same
      ∙ sym (threads_set h h 0 h.current h.statuses v.sp v.pc v.known refl (omega arith) v.running (λ j sp pc n is ne. refl))

  raw_same : raw_of to ≡ raw_of h
  raw_same =
      let heap : heap_words new ≡ heap_words h.machine.memory = ap (λ (ws : List ℕ). (let y : Words = record { code = []; heap = ws; control = []; stacks = [] } in y)) (flush_only (stack_of h.machine)).heap in
      (λ i. record {
        maps = h.maps;
        mem = heap i;
        heap = record { top = (regs_same i) 6; next = h.next };
        threads = threads_same i;
        current = h.current;
        steps = h.steps + (regs_same i) 2;
        cost = h.cost + (regs_same i) 3;
      })

  pub stays_at_poll : StaysAtPoll h
  stays_at_poll = record {
    poll = record { body = p.body; number = p.number; node = p.node; runs = runs_now; hosted = hosted_now; all = run_kept h to.machine p.all };
    raw = raw_same;
  }
