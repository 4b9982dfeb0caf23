-- A unit is put behind the others.
use Rattle.std.proofs.Common.{◌≡◌, ◌≢◌, ℕ, suc, ◌+◌, ◌-◌, ◌/◌, ◌<◌, ◌≤◌, ◌==◌, refl, ◌∙◌, ap, sym, subst, arith, inl}
use Rattle.std.specs.Prelude.{Bool, true, false, List, [], ◌∷◌, Some, slice_get}
use Rattle.std.proofs.lemmas.Bool.{eqb-true, eqb-false}
use Rattle.std.proofs.lemmas.Option.{slice_get_within}
use Rattle.self_terms.specs.declared.nodes.Node.{Node}
use Rattle.sparc_insn.specs.declared.insn.Insn.TheVariants.{Trap}
use Rattle.sparc_store.specs.Words.{Words}
use Rattle.sparc_store.specs.Windows.{Frame as Window, kept, saved_at, frame_before, but_first}
use Rattle.source_model.specs.State.{State}
use Rattle.frame_walk.specs.Raw.{Raw}
use Rattle.frame_walk.specs.Walk.{activations, AreLaid}
use Rattle.frame_walk.proofs.Resting.{laid_as, before_same}
use Rattle.raw_steps.specs.Meeting.{HasCore}
use Rattle.raw_steps.specs.Stands.{Sense, Stands}
use Rattle.plain_runs.specs.Host.{Host, descriptor_at, raw_of, seen, waiting}
use Rattle.plain_runs.specs.declared.status.Status.TheVariants.{Waiting}
use Rattle.plain_runs.specs.Units.{HasUnit, IsInPoll}
use Rattle.plain_runs.specs.Services.{next_unit, with_unit}
use Rattle.plain_runs.specs.Sound.{IsCaller, IsHeld, Calls, Polls, InFrame, RunsAt, IsHosted, entry_frame, ending_stub}
use Rattle.plain_runs.specs.Course.{AllRun}
use Rattle.plain_runs.proofs.Taking.{take_up_kept, take_up_as}
use Rattle.plain_runs.proofs.Working.{held_have_room, same_stack}
use Rattle.plain_steps.specs.Steps.{StandsFor}
use Rattle.plain_units.specs.Putting.{IsPut, UnitsArePut, UnitsArePutIdle}
use Rattle.plain_units.proofs.Points.{at_same, heap_same, set_there, set_elsewhere}
use Rattle.plain_units.proofs.Passing.{unit_in, new_unit, plain_in, caller_in, kept_in, callers_in, above, high_same, saved_in, Kept, threads_same, thread_same}

-- the frame in view, at a poll, and its callers, as frames that are held
view_laid : (h : Host) (b n : ℕ) (node : Node) → AllRun h → (r : RunsAt h b n node)
    → AreLaid (IsHeld h) (entry_frame h.current) ending_stub h.machine.memory (suc r.view.older) (h.machine.regs 14) (kept h.machine.regs) h.machine.pc h.machine.older
unfolding AreLaid
view_laid h b n node run r =
    let m = h.machine in
    let p = r.poll in
    let at_poll : IsInPoll h m.pc b n = record { at = p.at; word = 0; unit = p.unit; inside = p.inside; within = omega arith; address = omega (arith, p.address) } in (
      Polls b n at_poll (run b) r.view.frame,
      laid_as (IsCaller h) (IsHeld h) (entry_frame h.current) ending_stub m.memory r.view.older (m.regs 30) (frame_before m.memory (m.regs 30) m.older) (m.regs 31 + 8) (but_first m.older) (λ q a f x. Calls x) r.view.callers,
    )

stack_high : (k sp : ℕ) → sp / 0x02000000 ≡ entry_frame k / 0x02000000 → 0x40000000 ≤ sp
stack_high k sp e = omega (arith, e)

module _ (h : Host) (c : ℕ) (memory : Words) (put : IsPut h c memory) (hosted : IsHosted h) (run : AllRun h) where
  abbrev to : Host
  to = with_unit c memory h

  others_kept : (k sp pc n : ℕ) → slice_get h.statuses k ≡ Some (Waiting sp pc n) → k ≢ h.current → Kept h c memory put (entry_frame k) n sp pc (saved_at h.machine.memory sp) []
  others_kept k sp pc n is ne =
      let l = hosted.others k sp pc n is ne in
      let up = stack_high k sp (same_stack (descriptor_at h) (IsHeld h) (entry_frame k) ending_stub h.machine.memory n sp (saved_at h.machine.memory sp) pc [] (held_have_room h run) l) in
      kept_in h c memory put run (entry_frame k) n sp pc (saved_at h.machine.memory sp) [] up l

  others_high : (k sp pc n : ℕ) → slice_get h.statuses k ≡ Some (Waiting sp pc n) → k ≢ h.current → 0x40000000 ≤ sp
  others_high k sp pc n is ne =
      stack_high k sp (same_stack (descriptor_at h) (IsHeld h) (entry_frame k) ending_stub h.machine.memory n sp (saved_at h.machine.memory sp) pc [] (held_have_room h run) (hosted.others k sp pc n is ne))

  entry_by : (b at : ℕ) (q : Bool) → (b == c) ≡ q → 0 < b → slice_get to.entries (b - 1) ≡ Some at → at ≢ 0 → HasUnit to b at
  entry_by b at true e given is some =
      let same : b ≡ c = eqb-true b c e in
      let there = slice_get_within h.entries (c - 1) 0 put.none in
      let first : Some at ≡ Some (next_unit h) = sym is ∙ ap (slice_get to.entries) (omega (arith, same)) ∙ set_there h.entries (c - 1) (next_unit h) there in
      let where_is : at ≡ next_unit h = (let f : Some at ≡ Some (next_unit h) = first in cc) in
      let P : ℕ → ℕ → Type 0 = λ x y. HasUnit to x y in
      subst (λ y. P b y) (sym where_is) (subst (λ x. P x (next_unit h)) (sym same) (new_unit h c memory put))
  entry_by b at false e given is some =
      let ne : b - 1 ≢ c - 1 = λ q. eqb-false b c e (omega (arith, q, given, put.given)) in
      unit_in h c memory put b at (hosted.units b at given (sym (set_elsewhere h.entries (c - 1) (b - 1) (next_unit h) ne) ∙ is) some)

  hosted_in : IsHosted to
  hosted_in = record {
    within = put.within;
    register_0 = hosted.register_0;
    windows = hosted.windows;
    units = λ b at given is some. entry_by b at (b == c) refl given is some;
    stub = at_same (Trap 9 ∷ []) h.machine.memory memory ending_stub (λ a low. put.apart.others a (inl (omega (arith, low)))) hosted.stub;
    activities = hosted.activities;
    others = λ k sp pc n is ne.
        (let P : Window → Type 0 = λ w. AreLaid (IsHeld to) (entry_frame k) ending_stub memory n sp w pc [] in subst P (sym (saved_in h c memory put sp (others_high k sp pc n is ne))) (others_kept k sp pc n is ne).laid);
    parked = λ k sp pc n is ne.
        take_up_as h to (λ q b j p. record { at = p.at; unit = unit_in h c memory put b p.at p.unit; inside = p.inside; address = p.address }) (λ b s f r. record { ends = r.ends; place = r.place }) (caller_in h c memory put)
        memory k sp pc n (take_up_kept h (held_have_room h run) h.machine.memory memory k sp pc n (high_same h c memory put sp (entry_frame k + 64) (others_high k sp pc n is ne)) (hosted.parked k sp pc n is ne));
    goal = omega (arith, above h c memory put 0x30000000 (omega arith), hosted.goal);
  }

  module _ (b n : ℕ) (node : Node) (r : RunsAt h b n node) where
    m_high : 0x40000000 ≤ h.machine.regs 14
    m_high = r.view.frame.place.1

    view_in : InFrame to b
    view_in =
        let m = h.machine in
        let v = r.view in
        let high : 0x40000000 ≤ m.regs 30 = omega (arith, v.frame.place.1, v.frame.ends) in
        let before : frame_before memory (m.regs 30) m.older ≡ frame_before m.memory (m.regs 30) m.older = before_same m.memory memory (m.regs 30) m.older (λ a low top. above h c memory put a (omega (arith, low, high))) in
        let laid = callers_in h c memory put run (entry_frame h.current) v.older (m.regs 30) (m.regs 31 + 8) (frame_before m.memory (m.regs 30) m.older) (but_first m.older) high v.callers in
        record {
          sp = v.sp;
          pc = v.pc;
          known = v.known;
          running = v.running;
          frame = record { ends = v.frame.ends; place = v.frame.place };
          older = v.older;
          count = v.count;
          few = v.few;
          held = v.held;
          callers = (let P : Window → Type 0 = λ w. AreLaid (IsCaller to) (entry_frame h.current) ending_stub memory v.older (m.regs 30) w (m.regs 31 + 8) (but_first m.older) in subst P (sym before) laid);
        }

    runs_in : RunsAt to b n node
    runs_in = record {
      view = view_in;
      stands = r.stands;
      poll = record { at = r.poll.at; unit = unit_in h c memory put b r.poll.at r.poll.unit; inside = r.poll.inside; address = r.poll.address };
      node_is = r.node_is;
    }

    seen_in : seen to ≡ seen h
    seen_in =
        let m = h.machine in
        let kept_all = kept_in h c memory put run (entry_frame h.current) (suc r.view.older) (m.regs 14) m.pc (kept m.regs) m.older m_high (view_laid h b n node run r) in
        ap (λ k. activations (descriptor_at to) memory k (m.regs 14) (kept m.regs) m.pc m.older) r.view.count
        ∙ kept_all.shows
        ∙ sym (ap (λ k. activations (descriptor_at h) m.memory k (m.regs 14) (kept m.regs) m.pc m.older) r.view.count)

  waits_in : (k sp pc count : ℕ) → slice_get h.statuses k ≡ Some (Waiting sp pc count) → k ≢ h.current → waiting to sp pc count ≡ waiting h sp pc count
  waits_in k sp pc count is ne =
      ap (λ w. activations (descriptor_at to) memory count sp w pc []) (saved_in h c memory put sp (others_high k sp pc count is ne)) ∙ (others_kept k sp pc count is ne).shows

  -- where the frames of the current activity show the same, if it runs, so does all
  module _ (now : (sp pc count : ℕ) → slice_get h.statuses h.current ≡ Some (Waiting sp pc count) → seen to ≡ seen h) where
    raw_in : raw_of to ≡ raw_of h
    raw_in =
        let threads = threads_same h to 0 h.statuses (λ j s is. thread_same h to (0 + j) s refl (λ e sp pc count same. now sp pc count (ap (slice_get h.statuses) (sym e) ∙ ap (slice_get h.statuses) (omega arith) ∙ is ∙ ap Some same))
        (λ ne sp pc count same. waits_in j sp pc count (is ∙ ap Some same) (λ e. ne (omega (arith, e))))) in
        let heap = heap_same h.machine.memory memory hosted.within put.within (above h c memory put) in
        λ i. record {
          maps = h.maps;
          mem = ap (λ (q : List ℕ). record { code = []; heap = q; control = []; stacks = [] }) heap i;
          heap = record { top = h.machine.regs 6; next = h.next };
          threads = threads i;
          current = h.current;
          steps = h.steps + h.machine.regs 2;
          cost = h.cost + h.machine.regs 3;
        }

    stands_in : (z : Sense) (s : State) → StandsFor z h s → StandsFor z to s
    stands_in z s f = record {
      stands = (let P : Raw → Type 0 = λ q. Stands z q s in subst P (sym raw_in) f.stands);
      core = (let P : Raw → Type 0 = λ q. HasCore q s z in subst P (sym raw_in) f.core);
      bodies = f.bodies;
      objects = f.objects;
      nil = f.nil;
      sums = f.sums;
    }

pub units_put : UnitsArePut
units_put z h s b n c node memory f hosted run r put = record {
  standing = record {
    hosted = hosted_in h c memory put hosted run;
    stands = stands_in h c memory put hosted run (λ sp pc count is. seen_in h c memory put hosted run b n node r) z s f;
    unit = new_unit h c memory put;
    plain = plain_in h c memory put;
  };
  runs = runs_in h c memory put hosted run b n node r;
}

pub units_put_idle : UnitsArePutIdle
units_put_idle z h s c memory f hosted run idle put = record {
  hosted = hosted_in h c memory put hosted run;
  stands = stands_in h c memory put hosted run (λ sp pc count is. absurd (idle sp pc count is)) z s f;
  unit = new_unit h c memory put;
  plain = plain_in h c memory put;
}
