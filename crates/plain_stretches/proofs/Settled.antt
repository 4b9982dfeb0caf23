-- What a service does to counts and control words, where the current activity is at a poll, and where it has ended.
use Rattle.std.proofs.Common.{◌≡◌, ◌≢◌, ℕ, zero, suc, ◌+◌, ◌*◌, ◌/◌, ◌<◌, ◌≤◌, refl, ◌∙◌, ap, sym, subst, arith}
use Rattle.std.specs.Prelude.{false, nat_eq, List, [], ◌∷◌, length, All, Some, slice_get, slice_set}
use Rattle.std.proofs.lemmas.Grind.{common_steps}
use Rattle.self_terms.specs.declared.nodes.Node.{Node}
use Rattle.self_terms.specs.Depths.{depth}
use Rattle.sparc_insn.specs.declared.insn.Insn.TheVariants.{Trap}
use Rattle.sparc_store.specs.Words.{word_at}
use Rattle.sparc_store.specs.Windows.{Frame as Window, kept, saved_at}
use Rattle.sparc_machine.specs.State.{MachineState, with_reg}
use Rattle.frame_walk.specs.Places.{shown, plain_descriptor}
use Rattle.frame_walk.specs.Raw.{Going}
use Rattle.frame_walk.specs.Walk.{activations, AreLaid, SameBetween}
use Rattle.frame_walk.proofs.Resting.{rests, laid_as, saved_same, shown_same}
use Rattle.source_model.specs.Soundness.{body_in}
use Rattle.plain_words.specs.Going.{StandsAt}
use Rattle.plain_words.specs.Showing.{viewed}
use Rattle.plain_words.specs.Units.{frame_locals, frame_words}
use Rattle.plain_words.proofs.Basics.{other_register}
use Rattle.plain_words.proofs.Shown.{window_same}
use Rattle.plain_runs.specs.Host.{Host, seen, threads_from, descriptor_at}
use Rattle.plain_runs.specs.Units.{IsPoll}
use Rattle.plain_runs.specs.Sound.{IsWindow, IsHeld, RunsAt, IsHosted, callers_of, entry_frame, ending_stub}
use Rattle.plain_runs.specs.Services.{cleared}
use Rattle.plain_runs.specs.Course.{with_machine, AllRun}
use Rattle.plain_runs.proofs.Keeping.{unit_kept, stub_kept, held_kept, threads_set, OthersWait}
use Rattle.plain_runs.proofs.Taking.{taken_up_on}
use Rattle.plain_runs.proofs.Working.{held_have_room, same_stack, same_descriptors, plain_fits}
use Rattle.plain_steps.proofs.Here.{current_there, now_seen}
use Rattle.plain_sends.proofs.Settling.{SettledTo, settles}

two_others : (regs : ℕ → ℕ) (r : ℕ) → nat_eq r 3 ≡ false → nat_eq r 2 ≡ false → cleared regs r ≡ regs r
two_others regs r e3 e2 = other_register (with_reg regs 2 0) 3 0 r e3 ∙ other_register regs 2 0 r e2

other : (a b : ℕ) → b < a → nat_eq a b ≡ false
other a b h = grind (arith, common_steps)

pub high_cleared : (regs : ℕ → ℕ) (r : ℕ) → 16 ≤ r → cleared regs r ≡ regs r
high_cleared regs r h = two_others regs r (other r 3 (omega arith)) (other r 2 (omega arith))

-- Lists.
pub set_same : {A : Type 0} (xs : List A) (c : ℕ) (a : A) → slice_get xs c ≡ Some a → slice_set xs c a ≡ xs
set_same [] c a e = absurd (cc)
set_same (x ∷ xs) zero a e = ap (λ y. y ∷ xs) (let f : a ≡ x = cc in f)
set_same (x ∷ xs) (suc c) a e = ap (λ ys. x ∷ ys) (set_same xs c a e)

pub set_there : {A : Type 0} (xs : List A) (c : ℕ) (a y : A) → slice_get (slice_set xs c a) c ≡ Some y → y ≡ a
set_there [] c a y e = absurd (cc)
set_there (x ∷ xs) zero a y e = cc
set_there (x ∷ xs) (suc c) a y e = set_there xs c a y e

pub set_elsewhere : {A : Type 0} (xs : List A) (c j : ℕ) (a : A) → j ≢ c → slice_get (slice_set xs c a) j ≡ slice_get xs j
set_elsewhere [] c j a ne = refl
set_elsewhere (x ∷ xs) zero zero a ne = absurd (ne refl)
set_elsewhere (x ∷ xs) zero (suc j) a ne = refl
set_elsewhere (x ∷ xs) (suc c) zero a ne = refl
set_elsewhere (x ∷ xs) (suc c) (suc j) a ne = set_elsewhere xs c j a (λ e. ne (ap suc e))

pub set_long : {A : Type 0} (xs : List A) (c : ℕ) (a : A) → length (slice_set xs c a) ≡ length xs
set_long [] c a = refl
set_long (x ∷ xs) zero a = refl
set_long (x ∷ xs) (suc c) a = ap suc (set_long xs c a)

-- At a poll.
pub record Rested (h : Host) (to : MachineState) (b n : ℕ) (node : Node) : Type 0 where
  pub hosted : IsHosted (with_machine h to)
  pub runs : RunsAt (with_machine h to) b n node
  pub threads : threads_from (with_machine h to) 0 h.statuses ≡ threads_from h 0 h.statuses

pub rested : (h : Host) (to : MachineState) (b n : ℕ) (node : Node) (goal : ℕ) → RunsAt h b n node → IsHosted h → AllRun h → SettledTo h to goal → to.pc ≡ h.machine.pc → to.npc ≡ h.machine.pc + 4 → Rested h to b n node
rested h to b n node goal r hosted run s here next =
    let m = h.machine in
    let x = body_in h.bodies b in
    let locals = frame_locals x in
    let words = frame_words x in
    let k = depth x.nodes n in
    let hm = with_machine h to in
    let still = settles h to b goal r.view hosted run s in
    let poll : IsPoll hm to.pc b n = record {
      at = r.poll.at;
      unit = unit_kept h to b r.poll.at (λ q small. s.memory.others q (λ e. absurd (omega (arith, e, small))) (λ e. absurd (omega (arith, e, small)))) r.poll.unit;
      inside = r.poll.inside;
      address = here ∙ r.poll.address;
    } in
    let stands : StandsAt to to.pc = record { here = refl; next = next ∙ ap (λ z. z + 4) (sym here) } in
    let runs : RunsAt hm b n node = record { view = still.view; stands = stands; poll = poll; node_is = r.node_is } in
    let window = kept m.regs in
    let sp = m.regs 14 in
    let d = plain_descriptor b n locals k in
    let room = (run b).room n in
    let same : SameBetween sp (sp + 4 * words) m.memory to.memory = λ q from end. s.memory.others q (λ e. absurd (omega (arith, e, from, r.view.frame.place.1))) (λ e. absurd (omega (arith, e, from, r.view.frame.place.1))) in
    let frame : viewed to b n locals k ≡ viewed m b n locals k =
    ap (λ z. shown to.memory z (to.regs 14) d) (window_same to.regs m.regs s.window)
    ∙ ap (λ z. shown to.memory window z d) s.frame
    ∙ shown_same m.memory to.memory window sp (4 * words) d (plain_fits words b n locals k (omega (arith, room))) same in
    let all : seen hm ≡ seen h =
    now_seen hm b n node runs
    ∙ ap (λ y. viewed to b n locals k ∷ callers_of hm y) still.deep
    ∙ ap (λ y. viewed to b n locals k ∷ y) still.callers
    ∙ ap (λ y. y ∷ callers_of h r.view.older) frame
    ∙ sym (now_seen h b n node r) in
    let ts = threads_from h 0 h.statuses in
    record {
      hosted = still.hosted;
      runs = runs;
      threads =
          threads_set h hm 0 h.current h.statuses r.view.sp r.view.pc r.view.known refl (omega arith) r.view.running still.waits
          ∙ ap (λ y. slice_set ts h.current (Going y)) all
          ∙ set_same ts h.current (Going (seen h)) (current_there h b r.view);
    }

-- Where no frame is in view: what holds of the host and the other activities.
pub record Kept (h : Host) (to : MachineState) : Type 0 where
  pub hosted : IsHosted (with_machine h to)
  pub waits : OthersWait h (with_machine h to) 0 h.statuses

stack_high : (k sp : ℕ) → sp / 0x02000000 ≡ entry_frame k / 0x02000000 → 0x40000000 ≤ sp
stack_high k sp e = omega (arith, e)

pub kept_settled : (h : Host) (to : MachineState) (goal : ℕ) → IsHosted h → AllRun h → SettledTo h to goal → Kept h to
kept_settled h to goal hosted run s =
    let m = h.machine in
    let h2 = with_machine h to in
    let held = held_have_room h run in
    let low : (b : ℕ) → b < 0x20000000 → word_at to.memory b ≡ word_at m.memory b = λ b small. s.memory.others b (λ e. absurd (omega (arith, e, small))) (λ e. absurd (omega (arith, e, small))) in
    let high : (from end : ℕ) → 0x40000000 ≤ from → SameBetween from end m.memory to.memory = λ from end up b above below. s.memory.others b (λ e. absurd (omega (arith, e, above, up))) (λ e. absurd (omega (arith, e, above, up))) in
    record {
      hosted = record {
        within = s.memory.within;
        register_0 = s.zero_is ∙ hosted.register_0;
        windows = (let Q : List Window → Type 0 = λ z. All IsWindow z in subst Q (sym s.older) hosted.windows);
        units = λ u at given is stands. unit_kept h to u at low (hosted.units u at given is stands);
        stub = stub_kept (Trap 9 ∷ []) h to ending_stub low (omega arith) hosted.stub;
        activities = hosted.activities;
        others = λ k sp pc n is ne.
            let l = hosted.others k sp pc n is ne in
            let up = stack_high k sp (same_stack (descriptor_at h) (IsHeld h) (entry_frame k) ending_stub m.memory n sp (saved_at m.memory sp) pc [] held l) in
            let q = (rests (descriptor_at h) (IsHeld h) (entry_frame k) ending_stub m.memory to.memory n sp (saved_at m.memory sp) pc [] held l (high sp (entry_frame k + 64) up)).1 in
            let q2 = laid_as (IsHeld h) (IsHeld h2) (entry_frame k) ending_stub to.memory n sp (saved_at m.memory sp) pc [] (λ u a f x. held_kept h to u a f low x) q in
            (let Q : Window → Type 0 = λ v. AreLaid (IsHeld h2) (entry_frame k) ending_stub to.memory n sp v pc [] in subst Q (sym (saved_same m.memory to.memory sp (high sp (sp + 64) up))) q2);
        parked = λ k sp pc n is ne.
            let up = stack_high k sp (same_stack (descriptor_at h) (IsHeld h) (entry_frame k) ending_stub m.memory n sp (saved_at m.memory sp) pc [] held (hosted.others k sp pc n is ne)) in
            taken_up_on h to held low k sp pc n (high sp (entry_frame k + 64) up) (hosted.parked k sp pc n is ne);
        goal = omega (arith, s.memory.goal_is, s.few);
      };
      waits = λ k sp pc n is ne.
          let l = hosted.others k sp pc n is (λ e. ne (omega (arith, e))) in
          let up = stack_high k sp (same_stack (descriptor_at h) (IsHeld h) (entry_frame k) ending_stub m.memory n sp (saved_at m.memory sp) pc [] held l) in
          ap (λ d. activations d to.memory n sp (saved_at to.memory sp) pc []) (same_descriptors h to)
          ∙ ap (λ v. activations (descriptor_at h) to.memory n sp v pc []) (saved_same m.memory to.memory sp (high sp (sp + 64) up))
          ∙ (rests (descriptor_at h) (IsHeld h) (entry_frame k) ending_stub m.memory to.memory n sp (saved_at m.memory sp) pc [] held l (high sp (entry_frame k + 64) up)).0;
    }
