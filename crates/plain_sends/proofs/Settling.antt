-- What a service does to the counts and the control region leaves frames, units and heap.
use Rattle.std.proofs.Common.{◌≡◌, ◌≢◌, ℕ, ◌+◌, ◌*◌, ◌/◌, ◌≤◌, refl, ◌∙◌, ap, sym, subst, arith, inl, inr}
use Rattle.std.specs.Prelude.{suc, List, [], ◌∷◌, length, All}
use Rattle.sparc_insn.specs.declared.insn.Insn.TheVariants.{Trap}
use Rattle.std.proofs.lemmas.Grind.{common_steps}
use Rattle.sparc_store.specs.Regions.{Place, Code, Heap, Control, Stacks, Nowhere, place_of}
use Rattle.sparc_store.specs.Words.{Words, word_at, with_word, put_in, HasWord, HasFrame, IsWithin}
use Rattle.sparc_store.specs.Windows.{Frame as Window, saved_at, frame_before, but_first}
use Rattle.sparc_store.proofs.Placed.{others_stay, put_there, put_stays_within}
use Rattle.sparc_machine.specs.State.{MachineState}
use Rattle.frame_walk.specs.Walk.{activations, AreLaid, SameBetween}
use Rattle.frame_walk.proofs.Resting.{rests, laid_as, before_same, saved_same, ends_below}
use Rattle.source_model.specs.Soundness.{body_in}
use Rattle.plain_runs.specs.Host.{Host, descriptor_at, heap_words}
use Rattle.plain_runs.specs.Sound.{IsWindow, IsCaller, IsHeld, InFrame, IsHosted, callers_of, entry_frame, ending_stub}
use Rattle.plain_runs.specs.Course.{with_machine, AllRun}
use Rattle.plain_runs.proofs.Keeping.{SameCode, unit_kept, stub_kept, caller_kept, held_kept, OthersWait}
use Rattle.plain_runs.proofs.Taking.{taken_up_on}
use Rattle.plain_runs.proofs.Working.{callers_have_room, held_have_room, same_stack, same_descriptors}
use Rattle.plain_words.specs.Units.{frame_words}
use Rattle.plain_runs.specs.Services.{with_left}

-- memory that changed in the two control words alone
pub record Controlled (old new : Words) (goal : ℕ) : Type 0 where
  pub others : (b : ℕ) → b ≢ 0x30000000 → b ≢ 0x30000004 → word_at new b ≡ word_at old b
  pub goal_is : word_at new 0x30000000 ≡ goal
  pub heap : heap_words new ≡ heap_words old
  pub within : IsWithin new

put_heap : (m : Words) (p : Place) (w : ℕ) → ((k : ℕ) → p ≡ Heap k → ⊥) → heap_words (put_in m p w) ≡ heap_words m
put_heap m (Code k) w h = refl
put_heap m (Heap k) w h = absurd (h k refl)
put_heap m (Control k) w h = refl
put_heap m (Stacks k) w h = refl
put_heap m Nowhere w h = refl

no_heap : (at k : ℕ) → 0x30000000 ≤ at → place_of at ≡ Heap k → ⊥
no_heap at k high e = grind (arith, common_steps)

control_stays : (m : Words) (at w : ℕ) → 0x30000000 ≤ at → heap_words (with_word m at w) ≡ heap_words m
unfolding with_word
control_stays m at w high = put_heap m (place_of at) w (λ k e. no_heap at k high e)

has_goal : HasWord 0x30000000
has_goal = (omega arith, inr (inr (inl (omega arith, omega arith))))

has_cost : HasWord 0x30000004
has_cost = (omega arith, inr (inr (inl (omega arith, omega arith))))

-- what is left of the plain cost stands in word 1
pub left_is : (m : Words) (goal cost : ℕ) → IsWithin m → word_at (with_left m goal cost) 0x30000004 ≡ cost
left_is m goal cost whole = put_there (with_word m 0x30000000 goal) 0x30000004 cost (put_stays_within m 0x30000000 goal whole) has_cost

pub controlled : (m : Words) (goal cost : ℕ) → IsWithin m → Controlled m (with_left m goal cost) goal
controlled m goal cost whole = record {
  others = λ b n0 n1. others_stay (with_word m 0x30000000 goal) 0x30000004 cost b n1 ∙ others_stay m 0x30000000 goal b n0;
  goal_is = others_stay (with_word m 0x30000000 goal) 0x30000004 cost 0x30000000 (λ e. absurd (omega (arith, e))) ∙ put_there m 0x30000000 goal whole has_goal;
  heap = control_stays (with_word m 0x30000000 goal) 0x30000004 cost (omega arith) ∙ control_stays m 0x30000000 goal (omega arith);
  within = put_stays_within (with_word m 0x30000000 goal) 0x30000004 cost (put_stays_within m 0x30000000 goal whole);
}

-- The host with another machine and other sums: of its memory code and stacks are the same, and so is the frame in view.
pub record KeptTo (h : Host) (to : MachineState) (goal : ℕ) : Type 0 where
  pub code : SameCode h.machine.memory to.memory
  pub stacks : (b : ℕ) → 0x40000000 ≤ b → word_at to.memory b ≡ word_at h.machine.memory b
  pub goal_is : word_at to.memory 0x30000000 ≡ goal
  pub within : IsWithin to.memory
  pub few : goal ≤ 1000000000
  pub zero_is : to.regs 0 ≡ h.machine.regs 0
  pub count : to.regs 4 ≡ h.machine.regs 4
  pub frame : to.regs 14 ≡ h.machine.regs 14
  pub window : (r : ℕ) → 16 ≤ r → to.regs r ≡ h.machine.regs r
  pub older : to.older ≡ h.machine.older

-- of its memory all but the control words is the same
pub record SettledTo (h : Host) (to : MachineState) (goal : ℕ) : Type 0 where
  pub memory : Controlled h.machine.memory to.memory goal
  pub few : goal ≤ 1000000000
  pub zero_is : to.regs 0 ≡ h.machine.regs 0
  pub count : to.regs 4 ≡ h.machine.regs 4
  pub frame : to.regs 14 ≡ h.machine.regs 14
  pub window : (r : ℕ) → 16 ≤ r → to.regs r ≡ h.machine.regs r
  pub older : to.older ≡ h.machine.older

pub same_code : (old new : Words) (goal : ℕ) → Controlled old new goal → SameCode old new
same_code old new goal c b low = c.others b (λ e. absurd (omega (arith, e, low))) (λ e. absurd (omega (arith, e, low)))

pub same_stacks : (old new : Words) (goal : ℕ) → Controlled old new goal → (b : ℕ) → 0x40000000 ≤ b → word_at new b ≡ word_at old b
same_stacks old new goal c b high = c.others b (λ e. absurd (omega (arith, e, high))) (λ e. absurd (omega (arith, e, high)))

pub kept_to : (h : Host) (to : MachineState) (goal : ℕ) → SettledTo h to goal → KeptTo h to goal
kept_to h to goal s = record {
  code = same_code h.machine.memory to.memory goal s.memory;
  stacks = same_stacks h.machine.memory to.memory goal s.memory;
  goal_is = s.memory.goal_is;
  within = s.memory.within;
  few = s.few;
  zero_is = s.zero_is;
  count = s.count;
  frame = s.frame;
  window = s.window;
  older = s.older;
}

high_same : (h : Host) (to : MachineState) (goal from end : ℕ) → KeptTo h to goal → 0x40000000 ≤ from → SameBetween from end h.machine.memory to.memory
high_same h to goal from end s high b low below = s.stacks b (omega (arith, low, high))

-- frames that stand in a stack stand high
stack_high : (k sp : ℕ) → sp / 0x02000000 ≡ entry_frame k / 0x02000000 → 0x40000000 ≤ sp
stack_high k sp e = omega (arith, e)

pub record StillThere (h : Host) (to : MachineState) (b older : ℕ) : Type 0 where
  pub hosted : IsHosted (with_machine h to)
  pub view : InFrame (with_machine h to) b
  pub deep : view.older ≡ older
  pub waits : OthersWait h (with_machine h to) 0 h.statuses
  pub callers : callers_of (with_machine h to) older ≡ callers_of h older

pub stays_there : (h : Host) (to : MachineState) (b goal : ℕ) → (r : InFrame h b) → IsHosted h → AllRun h → KeptTo h to goal → StillThere h to b r.older
stays_there h to b goal r hosted run s =
    let m = h.machine in
    let h2 = with_machine h to in
    let frames = callers_have_room h run in
    let held = held_have_room h run in
    let low = s.code in
    let w : Window = frame_before m.memory (m.regs 30) m.older in
    let high : 0x40000000 ≤ m.regs 30 = omega (arith, r.frame.place.1, r.frame.ends) in
    let rest = rests (descriptor_at h) (IsCaller h) (entry_frame h.current) ending_stub m.memory to.memory r.older (m.regs 30) w (m.regs 31 + 8) (but_first m.older) frames r.callers (high_same h to goal (m.regs 30) (entry_frame h.current + 64) s high) in
    let before = before_same m.memory to.memory (m.regs 30) m.older (high_same h to goal (m.regs 30) (m.regs 30 + 64) s high) in
    let e30 = s.window 30 (omega arith) in
    let e31 = s.window 31 (omega arith) in
    let laid = laid_as (IsCaller h) (IsCaller h2) (entry_frame h.current) ending_stub to.memory r.older (m.regs 30) w (m.regs 31 + 8) (but_first m.older) (λ q a f x. caller_kept h to q a f low x) rest.1 in
    let P : ℕ → ℕ → Window → List Window → Type 0 = λ x y v z. AreLaid (IsCaller h2) (entry_frame h.current) ending_stub to.memory r.older x v (y + 8) z in
    let laid2 : P (to.regs 30) (to.regs 31) (frame_before to.memory (to.regs 30) to.older) (but_first to.older) =
    subst (λ x. P x (to.regs 31) (frame_before to.memory x to.older) (but_first to.older)) (sym e30)
    (subst (λ y. P (m.regs 30) y (frame_before to.memory (m.regs 30) to.older) (but_first to.older)) (sym e31)
    (subst (λ z. P (m.regs 30) (m.regs 31) (frame_before to.memory (m.regs 30) z) (but_first z)) (sym s.older)
    (subst (λ v. P (m.regs 30) (m.regs 31) v (but_first m.older)) (sym before) laid))) in
    record {
      hosted = record {
        within = s.within;
        register_0 = s.zero_is ∙ hosted.register_0;
        windows = (let Q : List Window → Type 0 = λ z. All IsWindow z in subst Q (sym s.older) hosted.windows);
        units = λ u at given is stands. unit_kept h to u at low (hosted.units u at given is stands);
        stub = stub_kept (Trap 9 ∷ []) h to ending_stub low (omega arith) hosted.stub;
        activities = hosted.activities;
        others = λ k sp pc n is ne.
            let l = hosted.others k sp pc n is ne in
            let up = stack_high k sp (same_stack (descriptor_at h) (IsHeld h) (entry_frame k) ending_stub m.memory n sp (saved_at m.memory sp) pc [] held l) in
            let top = ends_below (descriptor_at h) (IsHeld h) (entry_frame k) ending_stub m.memory n sp (saved_at m.memory sp) pc [] held l in
            let q = (rests (descriptor_at h) (IsHeld h) (entry_frame k) ending_stub m.memory to.memory n sp (saved_at m.memory sp) pc [] held l (high_same h to goal sp (entry_frame k + 64) s up)).1 in
            let q2 = laid_as (IsHeld h) (IsHeld h2) (entry_frame k) ending_stub to.memory n sp (saved_at m.memory sp) pc [] (λ u a f x. held_kept h to u a f low x) q in
            (let Q : Window → Type 0 = λ v. AreLaid (IsHeld h2) (entry_frame k) ending_stub to.memory n sp v pc [] in subst Q (sym (saved_same m.memory to.memory sp (high_same h to goal sp (sp + 64) s up))) q2);
        parked = λ k sp pc n is ne.
            let up = stack_high k sp (same_stack (descriptor_at h) (IsHeld h) (entry_frame k) ending_stub m.memory n sp (saved_at m.memory sp) pc [] held (hosted.others k sp pc n is ne)) in
            taken_up_on h to held low k sp pc n (high_same h to goal sp (entry_frame k + 64) s up) (hosted.parked k sp pc n is ne);
        goal = omega (arith, s.goal_is, s.few);
      };
      view = record {
        sp = r.sp;
        pc = r.pc;
        known = r.known;
        running = r.running;
        frame = record { ends = e30 ∙ r.frame.ends ∙ ap (λ x. x + 4 * frame_words (body_in h.bodies b)) (sym s.frame); place = (let Q : ℕ → Type 0 = λ x. HasFrame x (frame_words (body_in h.bodies b)) in subst Q (sym s.frame) r.frame.place) };
        older = r.older;
        count = s.count ∙ r.count;
        few = r.few;
        held = (let Q : List Window → Type 0 = λ z. length z ≤ suc r.older in subst Q (sym s.older) r.held);
        callers = laid2;
      };
      deep = refl;
      waits = λ k sp pc n is ne.
          let l = hosted.others k sp pc n is (λ e. ne (omega (arith, e))) in
          let up = stack_high k sp (same_stack (descriptor_at h) (IsHeld h) (entry_frame k) ending_stub m.memory n sp (saved_at m.memory sp) pc [] held l) in
          ap (λ d. activations d to.memory n sp (saved_at to.memory sp) pc []) (same_descriptors h to)
          ∙ ap (λ v. activations (descriptor_at h) to.memory n sp v pc []) (saved_same m.memory to.memory sp (high_same h to goal sp (sp + 64) s up))
          ∙ (rests (descriptor_at h) (IsHeld h) (entry_frame k) ending_stub m.memory to.memory n sp (saved_at m.memory sp) pc [] held l (high_same h to goal sp (entry_frame k + 64) s up)).0;
      callers =
          ap (λ d. activations d to.memory r.older (to.regs 30) (frame_before to.memory (to.regs 30) to.older) (to.regs 31 + 8) (but_first to.older)) (same_descriptors h to)
          ∙ ap (λ x. activations (descriptor_at h) to.memory r.older x (frame_before to.memory x to.older) (to.regs 31 + 8) (but_first to.older)) e30
          ∙ ap (λ y. activations (descriptor_at h) to.memory r.older (m.regs 30) (frame_before to.memory (m.regs 30) to.older) (y + 8) (but_first to.older)) e31
          ∙ ap (λ z. activations (descriptor_at h) to.memory r.older (m.regs 30) (frame_before to.memory (m.regs 30) z) (m.regs 31 + 8) (but_first z)) s.older
          ∙ ap (λ v. activations (descriptor_at h) to.memory r.older (m.regs 30) v (m.regs 31 + 8) (but_first m.older)) before
          ∙ rest.0;
    }

pub settles : (h : Host) (to : MachineState) (b goal : ℕ) → (r : InFrame h b) → IsHosted h → AllRun h → SettledTo h to goal → StillThere h to b r.older
settles h to b goal r hosted run s = stays_there h to b goal r hosted run (kept_to h to goal s)
