-- A return from a home method leads on, or ends the run.
use Rattle.std.proofs.Common.{◌≡◌, ◌≢◌, ℕ, zero, suc, ◌+◌, ◌-◌, ◌<◌, ◌≤◌, refl, ◌∙◌, ap, sym, subst, arith, append-nil}
use Rattle.std.specs.Prelude.{Bool, true, false, nat_lt, if◌then◌else◌, List, [], ◌∷◌, Option, Some, None, slice_get}
use Rattle.self_terms.specs.declared.values.Value.{Value}
use Rattle.sparc_store.specs.Windows.{saved_at}
use Rattle.sparc_machine.specs.State.{MachineState}
use Rattle.source_model.specs.Formed.{IsWellFormed}
use Rattle.source_model.specs.State.{Activity, Running, Answered as Ended_with, Failed as Ended_by, State, Reached, silent}
use Rattle.source_model.specs.Step.{step, run}
use Rattle.frame_walk.specs.Raw.{Thread, Answered as Answer}
use Rattle.raw_steps.specs.Stands.{Sense, IsActivity, makes_blocks}
use Rattle.plain_words.specs.Moves.{Moved}
use Rattle.plain_runs.specs.Host.{Host, raw_of, thread_of, threads_from}
use Rattle.plain_runs.specs.declared.status.Status.{Status}
use Rattle.plain_runs.specs.declared.status.Status.TheVariants.{Waiting, Answered}
use Rattle.plain_runs.specs.Services.{settled}
use Rattle.plain_runs.specs.Course.{with_machine}
use Rattle.plain_steps.specs.Paying.{IsPaid}
use Rattle.plain_steps.specs.Steps.{StandsFor, DoesStep}
use Rattle.plain_begins.specs.Begins.{Idle}
use Rattle.plain_unwinds.specs.Returning.{HasAnswered, Unwinds, GoesOn, Answers, Leaves}
use Rattle.plain_unwinds.specs.Services.{written, unmarked, ended_older, home_at, returns_to, answers_from_home, unwinds}
use Rattle.plain_unwinds.proofs.Returning.{home_returns, homes_leave}
use Rattle.plain_stretches.specs.Printing.{printed}
use Rattle.plain_stretches.specs.Standing.{left_of}
use Rattle.plain_stretches.specs.Stretches.{Halts, AtGoal, AtSend, AtPrimitive, AtHome, AtFull, AtEnd, GoesHome}
use Rattle.plain_stretches.proofs.Further.{then_run, answered_rests}
use Rattle.plain_stretches.proofs.Joining.{runs_join}
use Rattle.plain_stretches.proofs.Stretches.{steps_stretch}
use Rattle.plain_turns.specs.Asking.{count, cost_left}
use Rattle.plain_turns.specs.Resting.{IsReady, IsAtTrap, HasRun}
use Rattle.plain_turns.specs.Turns.{StepsOn, ReturnsTurn}
use Rattle.source_model.proofs.Forming.{steps_form}
use Rattle.plain_turns.proofs.Onward.{stopped, counted_is, rest_is, cost_fits, goes_on}

-- a return from a home method has led there
goes_home : (h : Host) (trap : ℕ) (from : State) (target : ℕ) (out : List ℕ) → (x : IsAtTrap h trap from target out) → trap ≡ 4 → Halts x.sense (with_machine h x.last) x.state x.on trap h.machine → GoesHome x.sense (with_machine h x.last) x.state x.on h.machine
goes_home h trap from target out x four (AtGoal e none w) = absurd (omega (arith, e, four))
goes_home h trap from target out x four (AtSend e q) = absurd (omega (arith, e, four))
goes_home h trap from target out x four (AtPrimitive e q) = absurd (omega (arith, e, four))
goes_home h trap from target out x four (AtHome e q) = q
goes_home h trap from target out x four (AtFull e q) = absurd (omega (arith, e, four))
goes_home h trap from target out x four (AtEnd e q) = absurd (omega (arith, e, four))

-- a state for which a host stands whose current activity has answered
thread_there : (h : Host) (from c : ℕ) (ss : List Status) (s : Status) → slice_get ss c ≡ Some s → slice_get (threads_from h from ss) c ≡ Some (thread_of h (from + c) s)
thread_there h from c [] s e = absurd (cc)
thread_there h from zero (x ∷ ss) s e =
    let same : x ≡ s = (let f : Some x ≡ Some s = e in cc) in
    ap (λ k. Some (thread_of h k x)) (omega arith) ∙ ap (λ y. Some (thread_of h (from + 0) y)) same
thread_there h from (suc c) (x ∷ ss) s e = thread_there h (from + 1) c ss s e ∙ ap (λ k. Some (thread_of h k s)) (omega arith)

answered_by : (wants : ℕ → Bool) (z : Sense) (at w : ℕ) (o : Option Activity) → IsActivity wants z at o (Some (Answer w)) → (v : Value) × (o ≡ Some (Ended_with v))
answered_by wants z at w (Some (Ended_with v)) is = (v, refl)
answered_by wants z at w (Some (Running all)) is = absurd is
answered_by wants z at w (Some (Ended_by e p)) is = absurd is
answered_by wants z at w None is = absurd is

has_answered : (z : Sense) (h : Host) (s : State) (w : ℕ) → StandsFor z h s → slice_get h.statuses h.current ≡ Some (Answered w) → (v : Value) × (slice_get s.activities s.current ≡ Some (Ended_with v))
has_answered z h s w f is =
    let there : slice_get (raw_of h).threads h.current ≡ Some (Answer w) = thread_there h 0 h.current h.statuses (Answered w) is in
    let P : Option Thread → Type 0 = λ t. IsActivity (makes_blocks s) z h.current (slice_get s.activities h.current) t in
    let q = answered_by (makes_blocks s) z h.current w (slice_get s.activities h.current) (subst P there (f.stands.activity h.current)) in
    (q.0, ap (slice_get s.activities) (sym f.stands.current) ∙ q.1)

-- what the service leaves as it was, whether the home has a caller or not
ready_by : (b : Bool) (one two : Host) → IsReady one → IsReady two → IsReady (if b then one else two)
ready_by true one two p q = p
ready_by false one two p q = q

unwound_ready : (h : Host) (goal cost : ℕ) → IsReady h → IsReady (unwinds goal cost h)
unwound_ready h goal cost r =
    let w = written h in
    let ended = ended_older w + 1 in
    let home = saved_at w.machine.memory (home_at w) in
    let s = settled goal cost (unmarked ended w) in
    ready_by (nat_lt ended (w.machine.regs 4)) (returns_to (home 14) (home 15 + 8) (w.machine.regs 4 - ended) s) (answers_from_home s)
    (record { fit = r.fit; room = record { each = r.room.each; left = r.room.left; lobby = r.room.lobby }; maps = record { few = r.maps.few; contexts = r.maps.contexts; blocks = r.maps.blocks; bodies = r.maps.bodies } })
    (record { fit = r.fit; room = record { each = r.room.each; left = r.room.left; lobby = r.room.lobby }; maps = record { few = r.maps.few; contexts = r.maps.contexts; blocks = r.maps.blocks; bodies = r.maps.bodies } })

module _ (h : Host) (from : State) (target : ℕ) (out : List ℕ) (x : IsAtTrap h 4 from target out) where
  abbrev at_poll : Host
  at_poll = with_machine h x.last

  abbrev goal : ℕ
  goal = target - count h - 1

  abbrev cost : ℕ
  cost = cost_left h

  home : GoesHome x.sense at_poll x.state x.on h.machine
  home = goes_home h 4 from target out x refl x.halts

  -- nothing but scratch registers has changed since the poll
  moved : Moved x.last h.machine h.machine.pc x.last.memory (x.last.regs 2)
  moved =
      let q = home in
      let a = q.asks.asks in
      let P : MachineState → Type 0 = λ m. Moved x.last m m.pc x.last.memory (x.last.regs 2) in
      let R : ℕ → Type 0 = λ p. Moved x.last a.to p x.last.memory (x.last.regs 2) in
      subst P (sym q.there) (subst R (sym a.moved.stands.here) a.moved)

  left_is : suc goal ≡ left_of at_poll
  left_is = rest_is h from target out (stopped h 4 from target out x) h.machine.pc home.can moved

  few : goal ≤ 1000000000
  few = omega (arith, left_is, x.near)

  unwound : Unwinds x.sense (unwinds goal cost h) x.state
  unwound =
      let q = home in
      let P : MachineState → Type 0 = λ m. Unwinds x.sense (unwinds goal cost (with_machine at_poll m)) x.state in
      subst P (sym q.there) (home_returns x.sense at_poll x.state x.on.body x.on.number x.on.sound.stands q.at q.can q.asks goal cost few)

  leaves : Leaves goal cost at_poll (unwinds goal cost h) x.state
  leaves =
      let q = home in
      let P : MachineState → Type 0 = λ m. Leaves goal cost at_poll (unwinds goal cost (with_machine at_poll m)) x.state in
      subst P (sym q.there) (homes_leave x.sense at_poll x.state x.on.body x.on.number x.on.sound.stands q.at q.can q.asks goal cost few)

  paid_there : (to : Host) → Leaves goal cost at_poll to x.state → IsPaid x.start to
  paid_there to l =
      let fits = cost_fits h from target out (stopped h 4 from target out x) h.machine.pc moved in
      let same : h.machine.regs 3 ≡ x.last.regs 3 = moved.kept 3 refl in
      record { room = x.paid.room; top = omega (arith, l.top, l.settled, l.sum, x.paid.top); left = omega (arith, l.left_is, l.sum, fits, same) }

  -- in the home's caller
  goes : (to : Host) → IsReady to → Leaves goal cost at_poll to x.state → DoesStep x.sense to x.state → StepsOn h to from target out
  goes to ready l d =
      let low : to.current < 4 = omega (arith, l.current, x.on.sound.current) in
      let on = steps_stretch x.start x.sense to x.state goal x.formed l.runs low ready.fit ready.maps (paid_there to l) d (omega (arith, l.goal_is, l.steps_are)) in
      subst (λ (o : List ℕ). StepsOn h to from target o) (append-nil out) (goes_on h from target out (stopped h 4 from target out x) h.machine.pc home.can moved to [] l.runs low ready on)

  -- the home was the oldest activation
  ends_there : (to : Host) → IsReady to → Leaves goal cost at_poll to x.state → HasAnswered to x.state → HasRun to from target out
  ends_there to ready l a =
      let s = x.state in
      let t = (step s).state in
      let v = has_answered a.sense to t a.word a.stands a.answered in
      let now : step s ≡ silent t = (λ i. record { state = t; out = a.silent i }) in
      let k = target - from.steps - x.done - 1 in
      let far : target - from.steps ≡ x.done + suc k = omega (arith, left_is, x.left_is, x.counted) in
      let still : run (suc k) (silent s) ≡ printed t [] = then_run k s t now ∙ answered_rests k t v.0 v.1 in
      record {
        state = t;
        runs = ap (λ j. run j (silent from)) far ∙ runs_join x.done (suc k) from s t out [] x.runs still ∙ ap (printed t) (append-nil out);
        rests = record {
          sense = a.sense;
          sound = record { hosted = a.hosted; runs = l.runs; current = omega (arith, l.current, x.on.sound.current); stands = a.stands };
          parks = Idle (λ sp pc known e. (let bad : Some (Answered a.word) ≡ Some (Waiting sp pc known) = sym a.answered ∙ e in absurd (cc)));
          formed = subst (λ (r : Reached). IsWellFormed r.state) now (steps_form s x.formed);
          ready = ready;
          start = x.start;
          paid = paid_there to l;
        };
      }

  ready_there : IsReady (unwinds goal cost h)
  ready_there = unwound_ready h goal cost x.ready

  on_by : (to : Host) → IsReady to → Leaves goal cost at_poll to x.state → Unwinds x.sense to x.state → (sp pc known : ℕ) → slice_get to.statuses h.current ≡ Some (Waiting sp pc known) → StepsOn h to from target out
  on_by to ready l (GoesOn d) sp pc known running = goes to ready l d
  on_by to ready l (Answers a) sp pc known running =
      let bad : Some (Answered a.word) ≡ Some (Waiting sp pc known) = sym a.answered ∙ ap (slice_get to.statuses) l.current ∙ running in
      absurd (cc)

  over_by : (to : Host) → IsReady to → Leaves goal cost at_poll to x.state → Unwinds x.sense to x.state → ((sp pc known : ℕ) → slice_get to.statuses to.current ≢ Some (Waiting sp pc known)) → HasRun to from target out
  over_by to ready l (GoesOn d) none = absurd (none d.runs.view.sp d.runs.view.pc d.runs.view.known d.runs.view.running)
  over_by to ready l (Answers a) none = ends_there to ready l a

pub returns_turn : ReturnsTurn
returns_turn h from target out x =
    let to = unwinds (target - count h - 1) (cost_left h) h in
    let before = counted_is h from target out (stopped h 4 from target out x) h.machine.pc (moved h from target out x) in
    let some = left_is h from target out x in
    record {
      left = omega (arith, before, some, x.left_is);
      on = λ sp pc known running. on_by h from target out x to (ready_there h from target out x) (leaves h from target out x) (unwound h from target out x) sp pc known running;
      over = λ none. over_by h from target out x to (ready_there h from target out x) (leaves h from target out x) (unwound h from target out x) none;
    }
