-- Another activity becomes the current one while a session rests.
use Rattle.std.proofs.Common.{◌≡◌, ◌≢◌, ℕ, zero, suc, ◌+◌, ◌<◌, ◌≤◌, ◌==◌, refl, ◌∙◌, ap, sym, subst, arith, inl, inr}
use Rattle.std.proofs.lemmas.Bool.{cases_eq, cond-true, lt-ltb}
use Rattle.std.proofs.lemmas.Grind.{common_steps}
use Rattle.std.proofs.lemmas.List.Elements.{All-nil}
use Rattle.std.proofs.lemmas.Option.{slice_get_within, same_Some}
use Rattle.std.specs.Prelude.{Bool, true, false, nat_lt, if◌then◌else◌, List, [], ◌∷◌, All, length, Option, Some, None, slice_get, slice_set}
use Rattle.sparc_store.specs.Words.{Words}
use Rattle.sparc_store.specs.Windows.{Frame as Window, with_reg, kept, saved_at, flushed, resumed}
use Rattle.sparc_machine.specs.State.{MachineState, stack_of}
use Rattle.source_model.specs.Formed.{IsWellFormed}
use Rattle.source_model.specs.Script.{Switch, command}
use Rattle.source_model.specs.Soundness.{body_in}
use Rattle.source_model.specs.State.{State, Reached, silent}
use Rattle.source_model.proofs.Editing.{commands_form}
use Rattle.heap_cells.proofs.Numbered.{got_if}
use Rattle.frame_walk.specs.Raw.{Raw}
use Rattle.frame_walk.specs.Walk.{activations}
use Rattle.frame_moves.proofs.Moving.{taken_window, laid_inside}
use Rattle.raw_steps.specs.Meeting.{HasCore}
use Rattle.raw_steps.specs.Stands.{Sense, Stands}
use Rattle.plain_runs.specs.Host.{Host, raw_of, descriptor_at}
use Rattle.plain_runs.specs.declared.status.Status.{Status}
use Rattle.plain_runs.specs.declared.status.Status.TheVariants.{Waiting, Answered, Failed}
use Rattle.plain_runs.specs.Services.{parked_by, parked}
use Rattle.plain_runs.specs.Sound.{IsWindow, IsHeld, IsHosted, entry_frame, ending_stub}
use Rattle.plain_runs.specs.Course.{with_machine, AllRun}
use Rattle.plain_runs.specs.Units.{IsPoll}
use Rattle.plain_runs.proofs.Keeping.{unit_kept}
use Rattle.plain_runs.proofs.Ready.{there_at}
use Rattle.plain_runs.proofs.Working.{held_have_room}
use Rattle.plain_steps.specs.Steps.{StandsFor}
use Rattle.plain_steps.specs.Paying.{IsPaid}
use Rattle.plain_begins.specs.Begins.{CanPark, AtPoll, Idle}
use Rattle.plain_begins.proofs.Parking.{Parks, idle_parks, running_parks, flushed_registers, flushed_windows, flushed_memory, parked_status, entry_place}
use Rattle.plain_begins.proofs.Hosting.{lain}
use Rattle.plain_begins.proofs.Starting.{activities_agree}
use Rattle.plain_turns.specs.Resting.{IsReady, Rests}
use Rattle.plain_switches.specs.Switching.{in_frame, taken_up_by, comes_up, switches}
use Rattle.plain_switches.specs.Resting.{with_current, FramesMayComeUp, Switched, SwitchesCount, SwitchesShow, SwitchesStand, SwitchesCome, SwitchesRest}
use Rattle.plain_switches.proofs.Coming.{Sees, coming, goal_kept, left_kept, hosted_then, threads_then, runs_then}

-- What holds of a host with another current activity.
record Comes (h : Host) (k : ℕ) (to : Host) : Type 0 where
  hosted : IsHosted to
  all : AllRun to
  current : to.current ≡ k
  raw : raw_of to ≡ record (raw_of h) { current = k }
  counts : Switched h to
  stands : (z : Sense) (s : State) → StandsFor z h s → StandsFor z to (with_current k s)
  ready : IsReady h → IsReady to
  parks : CanPark to

-- what stood for a state stands for it with another current activity
now_stands : (z : Sense) (r : Raw) (s : State) (k : ℕ) → Stands z r s → Stands z (record r { current = k }) (with_current k s)
now_stands z r s k f = record { heap = f.heap; unused = f.unused; activity = f.activity; live = f.live; current = refl; steps = f.steps; cost = f.cost; within = f.within }

now_core : (z : Sense) (r : Raw) (s : State) (k : ℕ) → HasCore r s z → HasCore (record r { current = k }) (with_current k s) z
now_core z r s k c = record { kin_of = c.kin_of; integers = c.integers; blocks = c.blocks }

module _ (h : Host) (memory : Words) (ss : List Status) (park : Parks h memory ss) (hosted : IsHosted h) (run : AllRun h) (k : ℕ) (m : MachineState) (zero_is : m.regs 0 ≡ 0) (windows : All IsWindow m.older)
    (sees : (x : Status) → slice_get ss k ≡ Some x → Sees h memory m x) (steps : m.regs 2 ≡ h.machine.regs 2) (cost : m.regs 3 ≡ h.machine.regs 3) (top : m.regs 6 ≡ h.machine.regs 6) where
  abbrev to : Host
  to = coming h memory ss park hosted run k m zero_is windows sees

  shows : raw_of to ≡ record (raw_of h) { current = k }
  shows = λ i. record {
    maps = h.maps;
    mem = park.heap i;
    heap = record { top = top i; next = h.next };
    threads = threads_then h memory ss park hosted run k m zero_is windows sees i;
    current = k;
    steps = h.steps + steps i;
    cost = h.cost + cost i;
  }

  stands_then : (z : Sense) (s : State) → StandsFor z h s → StandsFor z to (with_current k s)
  stands_then z s f =
      let P : Raw → Type 0 = λ q. Stands z q (with_current k s) in
      let Q : Raw → Type 0 = λ q. HasCore q (with_current k s) z in
      record {
        stands = subst P (sym shows) (now_stands z (raw_of h) s k f.stands);
        core = subst Q (sym shows) (now_core z (raw_of h) s k f.core);
        bodies = f.bodies;
        objects = f.objects;
        nil = f.nil;
        sums = f.sums;
      }

  came : CanPark to → Comes h k to
  came parks = record {
    hosted = hosted_then h memory ss park hosted run k m zero_is windows sees;
    all = λ b. run b;
    current = refl;
    raw = shows;
    counts = record { sum = refl; counted = steps; costs = refl; cost = cost; top = top; next = refl; goal = goal_kept h memory ss park hosted run k m zero_is windows sees; left = left_kept h memory ss park hosted run k m zero_is windows sees };
    stands = stands_then;
    ready = λ x. record {
      fit = x.fit;
      room = record { each = x.room.each; left = x.room.left; lobby = x.room.lobby };
      maps = record { few = x.maps.few; bodies = x.maps.bodies; contexts = x.maps.contexts; blocks = x.maps.blocks };
    };
    parks = parks;
  }

-- the registers of a frame that is taken up, with the count of its activity
high : (regs : ℕ → ℕ) (n k : ℕ) → with_reg regs 4 n (k + 16) ≡ regs (k + 16)
high regs n k = grind (arith, common_steps)

kept_same : (regs : ℕ → ℕ) (n : ℕ) → kept (with_reg regs 4 n) ≡ kept regs
kept_same regs n = λ i k. if nat_lt k 16 then high regs n k i else 0

module _ (h : Host) (memory : Words) (older : List Window) (ss : List Status) (park : Parks h memory ss) (hosted : IsHosted h) (run : AllRun h) (windows : All IsWindow older) (k : ℕ) where
  abbrev from : Host
  from = lain h memory older ss

  by_status : (x : Status) → slice_get ss k ≡ Some x → Comes h k (record (taken_up_by (Some x) from) { current = k })
  by_status (Waiting sp pc count) is =
      let s = stack_of from.machine in
      let m : MachineState = in_frame sp pc count from.machine in
      let view : kept m.regs ≡ saved_at memory sp = kept_same (resumed s sp).regs count ∙ taken_window s sp in
      let here : Sees h memory m (Waiting sp pc count) = ap (λ w. activations (descriptor_at h) memory count sp w pc []) view in
      let sees : (x : Status) → slice_get ss k ≡ Some x → Sees h memory m x = λ x e. subst (Sees h memory m) (same_Some (Waiting sp pc count) x (sym is ∙ e)) here in
      came h memory ss park hosted run k m hosted.register_0 (All-nil IsWindow) sees refl refl refl
      (let r = runs_then h memory ss park hosted run k m hosted.register_0 (All-nil IsWindow) sees sp pc count is refl refl refl refl refl refl (omega arith) in AtPoll r.0 r.1 r.2 r.3)
  by_status (Answered w) is =
      came h memory ss park hosted run k from.machine hosted.register_0 windows (λ x e. subst (Sees h memory from.machine) (same_Some (Answered w) x (sym is ∙ e)) tt) refl refl refl
      (Idle (λ sp pc count e. (let q : Some (Answered w) ≡ Some (Waiting sp pc count) = sym is ∙ e in cc)))
  by_status (Failed y p) is =
      came h memory ss park hosted run k from.machine hosted.register_0 windows (λ x e. subst (Sees h memory from.machine) (same_Some (Failed y p) x (sym is ∙ e)) tt) refl refl refl
      (Idle (λ sp pc count e. (let q : Some (Failed y p) ≡ Some (Waiting sp pc count) = sym is ∙ e in cc)))

  comes_from : k < length ss → Comes h k (comes_up k from)
  comes_from lt =
      let x = got_if ss k lt in
      let P : Option Status → Type 0 = λ y. Comes h k (record (taken_up_by y from) { current = k }) in
      subst P (sym x.1) (by_status x.0 x.1)

-- no activity runs
idles : (h : Host) (P : Host → Type 0) (x : Option Status) → ((sp pc count : ℕ) → x ≢ Some (Waiting sp pc count)) → P h → P (parked_by x h)
idles h P None idle p = p
idles h P (Some (Waiting sp pc count)) idle p = absurd (idle sp pc count refl)
idles h P (Some (Answered w)) idle p = p
idles h P (Some (Failed e q)) idle p = p

set_long : (xs : List Status) (k : ℕ) (x : Status) → length (slice_set xs k x) ≡ length xs
set_long [] k x = refl
set_long (y ∷ ys) zero x = refl
set_long (y ∷ ys) (suc k) x = ap suc (set_long ys k x)

by_parked : (h : Host) → IsHosted h → AllRun h → (k : ℕ) → k < length h.statuses → CanPark h → Comes h k (comes_up k (parked h))
by_parked h hosted run k lt (AtPoll b n node r) =
    let old = flushed_memory h in
    let older = (flushed (stack_of h.machine)).held in
    let ss = slice_set h.statuses h.current (parked_status h) in
    let c = comes_from h old older ss (running_parks h b n node r hosted run) hosted run (flushed_windows h b n node r hosted run) k (omega (arith, set_long h.statuses h.current (parked_status h), lt)) in
    let P : Host → Type 0 = λ p. Comes h k (comes_up k p) in
    let Q : Option Status → Type 0 = λ x. P (parked_by x h) in
    let R : (ℕ → ℕ) → Type 0 = λ regs. P (record h { machine = record h.machine { memory = old; regs = regs; older = older }; statuses = ss }) in
    subst Q (sym r.view.running) (subst R (sym (flushed_registers h b n node r hosted run)) c)
by_parked h hosted run k lt (Idle idle) =
    let P : Host → Type 0 = λ p. Comes h k (comes_up k p) in
    idles h P (slice_get h.statuses h.current) idle (comes_from h h.machine.memory h.machine.older h.statuses (idle_parks h hosted idle) hosted run hosted.windows k lt)

not_current : (a b : ℕ) → a ≢ b → (a == b) ≡ false
not_current a b e = grind (arith, common_steps)

is_current : (a b : ℕ) → a ≡ b → (a == b) ≡ true
is_current a b e = grind (arith, common_steps)

-- The current activity stays the current one.
stays : (h : Host) (k : ℕ) → IsHosted h → AllRun h → CanPark h → k ≡ h.current → Comes h k h
stays h k hosted run parks same =
    record {
      hosted = hosted;
      all = run;
      current = sym same;
      raw = ap (λ (c : ℕ). (let y : Raw = record (raw_of h) { current = c } in y)) (sym same);
      counts = record { sum = refl; counted = refl; costs = refl; cost = refl; top = refl; next = refl; goal = refl; left = refl };
      stands = λ z s f. (let P : ℕ → Type 0 = λ c. StandsFor z h (with_current c s) in subst P (sym f.stands.current ∙ sym same) f);
      ready = λ x. x;
      parks = parks;
    }

switched : (h : Host) (k : ℕ) → IsHosted h → AllRun h → CanPark h → k < length h.statuses → Comes h k (switches k h)
switched h k hosted run parks lt =
    let P : Bool → Type 0 = λ q. Comes h k (if q then h else comes_up k (parked h)) in
    elim (cases_eq k h.current) [
      | inl same ↦ subst P (sym (is_current k h.current same)) (stays h k hosted run parks same)
      | inr ne ↦ subst P (sym (not_current k h.current ne)) (by_parked h hosted run k lt parks)
    ]

resting : (h : Host) (s : State) (k : ℕ) → Rests h s → k < length h.statuses → Comes h k (switches k h)
resting h s k r lt = switched h k r.sound.hosted r.sound.runs r.parks lt

pub switches_count : SwitchesCount
switches_count h s k r lt = (resting h s k r lt).counts

pub switches_show : SwitchesShow
switches_show h s k r lt = (resting h s k r lt).raw

pub switches_stand : SwitchesStand
switches_stand h s k r lt =
    let c = resting h s k r lt in
    record { hosted = c.hosted; runs = c.all; current = omega (arith, c.current, lt, r.sound.hosted.activities); stands = c.stands r.sense s r.sound.stands }

-- the source's command
pub switches_come : SwitchesCome
unfolding command
switches_come h q k r lt stop =
    let agree = activities_agree r.sense h q.state r.sound.stands in
    let next : k + 1 ≡ suc k = omega arith in
    ap (λ (n : ℕ). command (Switch n) stop q) next ∙ cond-true (nat_lt k (length q.state.activities)) _ _ (lt-ltb k (length q.state.activities) (omega (arith, agree, lt)))

formed_then : (h : Host) (s : State) (k : ℕ) → Rests h s → k < length h.statuses → IsWellFormed (with_current k s)
formed_then h s k r lt = subst (λ (y : Reached). IsWellFormed y.state) (switches_come h (silent s) k r lt 0) (commands_form (Switch (k + 1)) 0 (silent s) tt r.formed)

still_paid : (h to : Host) (start : ℕ) → Switched h to → IsPaid start h → IsPaid start to
still_paid h to start x p = record { room = p.room; top = omega (arith, p.top, x.costs, x.cost, x.top); left = omega (arith, p.left, x.left, x.costs) }

pub switches_rest : SwitchesRest
switches_rest h s k r lt =
    let c = resting h s k r lt in
    record {
      rests = record {
        sense = r.sense;
        sound = switches_stand h s k r lt;
        parks = c.parks;
        formed = formed_then h s k r lt;
        ready = c.ready r.ready;
        start = r.start;
        paid = still_paid h (switches k h) r.start c.counts r.paid;
      };
      same = refl;
    }

-- a poll stands in the code region
poll_low : (h : Host) (pc b n : ℕ) → IsPoll h pc b n → pc ≤ 0x12000000
poll_low h pc b n p =
    let m : MachineState = record h.machine { pc = pc } in
    let node = got_if (body_in h.bodies b).nodes n p.inside in
    let q : IsPoll (with_machine h m) pc b n = record { at = p.at; unit = unit_kept h m b p.at (λ a low. refl) p.unit; inside = p.inside; address = p.address } in
    let code = (there_at (with_machine h m) b n node.0 q node.1).1.to in
    omega (arith, code)

pub frames_may_come_up : FramesMayComeUp
frames_may_come_up h s r k sp pc count is ne =
    let m = h.machine.memory in
    let hosted = r.sound.hosted in
    let four : k < 4 = omega (arith, slice_get_within h.statuses k (Waiting sp pc count) is, hosted.activities) in
    let a = hosted.parked k sp pc count is ne in (
      (laid_inside (descriptor_at h) (IsHeld h) (entry_frame k) ending_stub m count sp (saved_at m sp) pc [] (held_have_room h r.sound.runs) (entry_place k four) (hosted.others k sp pc count is ne)).0,
      omega (arith, poll_low h pc a.body a.number a.poll),
    )
