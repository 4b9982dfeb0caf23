-- A host whose current activity has ended, by an answer or an error: its counts and control words may be settled.
use Rattle.std.proofs.Common.{◌≡◌, ◌≢◌, ℕ, suc, ◌+◌, ◌<◌, ◌≤◌, ◌==◌, refl, ◌∙◌, ap, sym, subst, arith}
use Rattle.std.specs.Prelude.{false, if◌then◌else◌, List, [], ◌∷◌, Some, slice_get, slice_set}
use Rattle.std.proofs.lemmas.Grind.{common_steps}
use Rattle.sparc_store.specs.Windows.{saved_at}
use Rattle.source_model.specs.State.{State}
use Rattle.frame_walk.specs.Raw.{Going, Raw}
use Rattle.frame_walk.proofs.Resting.{laid_as}
use Rattle.raw_steps.specs.Stands.{Sense, Stands}
use Rattle.raw_steps.specs.Meeting.{HasCore}
use Rattle.plain_runs.specs.declared.status.Status.{Status}
use Rattle.plain_runs.specs.declared.status.Status.TheVariants.{Waiting, Answered, Failed}
use Rattle.plain_runs.specs.Host.{Host, seen, waiting, thread_of, threads_from, raw_of, descriptor_at}
use Rattle.plain_runs.specs.Units.{HasUnit}
use Rattle.plain_runs.specs.Sound.{IsCaller, IsHeld, Calls, Polls, IsHosted, entry_frame, ending_stub}
use Rattle.plain_runs.specs.Services.{settled}
use Rattle.plain_runs.specs.Course.{with_machine, AllRun}
use Rattle.plain_runs.proofs.Keeping.{OthersWait}
use Rattle.plain_runs.proofs.Taking.{take_up_as}
use Rattle.plain_steps.specs.Steps.{StandsFor}
use Rattle.plain_sends.proofs.Settling.{controlled, SettledTo}
use Rattle.plain_sends.proofs.Resumming.{hosted_as}
use Rattle.plain_stretches.proofs.Settled.{high_cleared, set_there, set_elsewhere, set_long, kept_settled}
use Rattle.plain_stretches.specs.Standing.{IsSound, HostsSettle, EndsSettle}

-- What shows the same stands for the same.
pub stands_as : (z : Sense) (h to : Host) (s : State) → raw_of to ≡ raw_of h → to.bodies ≡ h.bodies → to.references ≡ h.references → StandsFor z h s → StandsFor z to s
stands_as z h to s is bodies references f =
    let P : Raw → Type 0 = λ q. Stands z q s in
    let Q : Raw → Type 0 = λ q. HasCore q s z in
    record {
      stands = subst P (sym is) f.stands;
      core = subst Q (sym is) f.core;
      bodies = bodies ∙ f.bodies;
      objects = λ o w at. f.objects o w (ap (λ y. slice_get y.objects o) (sym references) ∙ at);
      nil = f.nil ∙ ap (λ y. Some y.nil) (sym references);
      sums = f.sums;
    }

-- Statuses are no part of what holds of units and frames.
abbrev restated : List Status → Host → Host
restated ss h = record h { statuses = ss }

unit_in : (ss : List Status) (h : Host) (b at : ℕ) → HasUnit h b at → HasUnit (restated ss h) b at
unit_in ss h b at u = record { given = u.given; known = u.known; entry = u.entry; from = u.from; region = u.region; code = u.code; points = u.points }

caller_in : (ss : List Status) (h : Host) (pc sp fp : ℕ) → IsCaller h pc sp fp → IsCaller (restated ss h) pc sp fp
caller_in ss h pc sp fp c = record {
  body = c.body;
  number = c.number;
  node = c.node;
  call = record { at = c.call.at; unit = unit_in ss h c.body c.call.at c.call.unit; node_is = c.call.node_is; call = c.call.call; address = c.call.address };
  room = record { ends = c.room.ends; place = c.room.place };
}

held_in : (ss : List Status) (h : Host) (pc sp fp : ℕ) → IsHeld h pc sp fp → IsHeld (restated ss h) pc sp fp
held_in ss h pc sp fp (Calls c) = Calls (caller_in ss h pc sp fp c)
held_in ss h pc sp fp (Polls b n p r room) =
    Polls b n (record { at = p.at; word = p.word; unit = unit_in ss h b p.at p.unit; inside = p.inside; within = p.within; address = p.address }) r (record { ends = room.ends; place = room.place })

-- the current activity has ended so
abbrev closed : Status → Host → Host
closed st h = restated (slice_set h.statuses h.current st) h

hosted_closed : (st : Status) (h : Host) → IsHosted h → IsHosted (closed st h)
hosted_closed st h x =
    let ss = slice_set h.statuses h.current st in
    record {
      within = x.within;
      register_0 = x.register_0;
      windows = x.windows;
      units = λ b at given is stands. unit_in ss h b at (x.units b at given is stands);
      stub = x.stub;
      activities = omega (arith, x.activities, set_long h.statuses h.current st);
      others = λ k sp pc n is ne.
          laid_as (IsHeld h) (IsHeld (closed st h)) (entry_frame k) ending_stub h.machine.memory n sp (saved_at h.machine.memory sp) pc [] (held_in ss h)
          (x.others k sp pc n (sym (set_elsewhere h.statuses h.current k st ne) ∙ is) ne);
      parked = λ k sp pc n is ne.
          take_up_as h (closed st h) (λ q b j p. record { at = p.at; unit = unit_in ss h b p.at p.unit; inside = p.inside; address = p.address }) (λ b s f r. record { ends = r.ends; place = r.place }) (caller_in ss h)
          h.machine.memory k sp pc n (x.parked k sp pc n (sym (set_elsewhere h.statuses h.current k st ne) ∙ is) ne);
      goal = x.goal;
    }

-- Threads, where the current activity doesn't run.
not_current : (a b : ℕ) → a ≢ b → (a == b) ≡ false
not_current a b ne = grind (arith, common_steps)

abbrev Runs_not : ℕ → ℕ → List Status → Type 0
Runs_not current from ss = (j sp pc n : ℕ) → slice_get ss j ≡ Some (Waiting sp pc n) → from + j ≢ current

thread_rests : (h to : Host) (k : ℕ) (s : Status) → to.current ≡ h.current → ((sp pc n : ℕ) → s ≡ Waiting sp pc n → k ≢ h.current) → ((sp pc n : ℕ) → s ≡ Waiting sp pc n → waiting to sp pc n ≡ waiting h sp pc n) → thread_of to k s ≡ thread_of h k s
thread_rests h to k (Waiting sp pc n) e ne w =
    ap (λ b. Going (if b then seen to else waiting to sp pc n)) (ap (λ c. k == c) e ∙ not_current k h.current (ne sp pc n refl))
    ∙ ap Going (w sp pc n refl)
    ∙ sym (ap (λ b. Going (if b then seen h else waiting h sp pc n)) (not_current k h.current (ne sp pc n refl)))
thread_rests h to k (Answered w) e ne f = refl
thread_rests h to k (Failed x p) e ne f = refl

threads_rest : (h to : Host) (from : ℕ) (ss : List Status) → to.current ≡ h.current → Runs_not h.current from ss → OthersWait h to from ss → threads_from to from ss ≡ threads_from h from ss
threads_rest h to from [] e ne w = refl
threads_rest h to from (s ∷ ss) e ne w =
    ap (λ t. t ∷ threads_from to (from + 1) ss) (thread_rests h to from s e (λ sp pc n is same. ne 0 sp pc n (ap Some is) (omega (arith, same))) (λ sp pc n is. w 0 sp pc n (ap Some is) (ne 0 sp pc n (ap Some is))))
    ∙ ap (λ ts. thread_of h from s ∷ ts) (threads_rest h to (from + 1) ss e (λ j sp pc n is same. ne (suc j) sp pc n is (omega (arith, same))) (λ j sp pc n is other. w (suc j) sp pc n is (λ same. other (omega (arith, same)))))

waits_as : (st : Status) (goal cost : ℕ) (h : Host) (sp pc n : ℕ) → waiting (with_machine h (settled goal cost h).machine) sp pc n ≡ waiting h sp pc n → waiting (closed st (settled goal cost h)) sp pc n ≡ waiting (closed st h) sp pc n
unfolding descriptor_at
waits_as st goal cost h sp pc n e = e

pub closes : (z : Sense) (h : Host) (s : State) (st : Status) → ((sp pc n : ℕ) → st ≢ Waiting sp pc n) → IsHosted h → AllRun h → h.current < 4 → StandsFor z (closed st h) s → (goal cost : ℕ) → goal ≤ 1000000000 → IsSound z (closed st (settled goal cost h)) s
closes z h s st ended hosted run current f goal cost few =
    let m = h.machine in
    let to = (settled goal cost h).machine in
    let c = controlled m.memory goal cost hosted.within in
    let st1 : SettledTo h to goal = record { memory = c; few = few; zero_is = refl; count = refl; frame = refl; window = high_cleared m.regs; older = refl } in
    let k = kept_settled h to goal hosted run st1 in
    let steps = h.steps + m.regs 2 in
    let sum = h.cost + m.regs 3 in
    let ss = slice_set h.statuses h.current st in
    let hosted2 = hosted_closed st (settled goal cost h) (hosted_as steps sum (with_machine h to) k.hosted) in
    let no_run : Runs_not h.current 0 ss =
    λ j sp pc n is same. (let here : slice_get ss h.current ≡ Some (Waiting sp pc n) = ap (slice_get ss) (sym (omega (arith, same))) ∙ is in ended sp pc n (sym (set_there h.statuses h.current st (Waiting sp pc n) here))) in
    let wait : OthersWait (closed st h) (closed st (settled goal cost h)) 0 ss =
    λ j sp pc n is ne. waits_as st goal cost h sp pc n (k.waits j sp pc n (sym (set_elsewhere h.statuses h.current j st (λ e. ne (omega (arith, e)))) ∙ is) ne) in
    let threads = threads_rest (closed st h) (closed st (settled goal cost h)) 0 ss refl no_run wait in
    let raw : raw_of (closed st (settled goal cost h)) ≡ raw_of (closed st h) = λ i. record {
      maps = h.maps;
      mem = c.heap i;
      heap = record { top = m.regs 6; next = h.next };
      threads = threads i;
      current = h.current;
      steps = (let q : steps + 0 ≡ h.steps + m.regs 2 = omega arith in q) i;
      cost = (let q : sum + 0 ≡ h.cost + m.regs 3 = omega arith in q) i;
    } in
    record {
      hosted = hosted2;
      runs = run;
      current = current;
      stands = stands_as z (closed st h) (closed st (settled goal cost h)) s raw refl refl f;
    }

pub hosts_settle : HostsSettle
hosts_settle h hosted run goal cost few =
    let m = h.machine in
    let to = (settled goal cost h).machine in
    let st : SettledTo h to goal = record { memory = controlled m.memory goal cost hosted.within; few = few; zero_is = refl; count = refl; frame = refl; window = high_cleared m.regs; older = refl } in
    hosted_as (h.steps + m.regs 2) (h.cost + m.regs 3) (with_machine h to) (kept_settled h to goal hosted run st).hosted

pub ends_settle : EndsSettle
ends_settle z h s x e goal cost few = closes e.sense (with_machine h e.to) _ (Answered (e.to.regs 8)) (λ sp pc n same. cc) e.hosted x.runs x.current e.stands goal cost few
