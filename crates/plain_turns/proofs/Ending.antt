-- A run ends.
use Rattle.std.proofs.Common.{◌≡◌, ℕ, zero, suc, ◌+◌, ◌-◌, ◌*◌, ◌<◌, ◌≤◌, refl, ◌∙◌, ap, sym, subst, arith}
use Rattle.std.specs.Prelude.{Bool, List, [], ◌∷◌, Option, Some, None, slice_get}
use Rattle.self_terms.specs.declared.errors.ErrorName.TheVariants as errors
use Rattle.self_terms.specs.declared.nodes.Node.TheVariants as nodes
use Rattle.self_terms.specs.declared.values.Value.{Value}
use Rattle.sparc_store.specs.Words.{word_at, IsWithin}
use Rattle.sparc_machine.specs.State.{MachineState}
use Rattle.source_model.specs.Messages.{body_of}
use Rattle.source_model.specs.State.{Activation, Activity, Running, Answered as Ended_with, Failed as Ended_by, State, Reached, silent, with_current}
use Rattle.source_model.specs.Formed.{IsWellFormed}
use Rattle.source_model.specs.Step.{node_at, place_of, step, settled as settles}
use Rattle.frame_walk.specs.Raw.{Thread, Answered as Answer}
use Rattle.raw_steps.specs.Sends.{here_of}
use Rattle.raw_steps.specs.Stands.{Sense, IsActivity, makes_blocks}
use Rattle.raw_steps.proofs.Nexts.{step_at}
use Rattle.plain_words.specs.Moves.{Moved}
use Rattle.plain_runs.specs.Host.{Host, raw_of, thread_of, threads_from}
use Rattle.plain_runs.specs.declared.status.Status.{Status}
use Rattle.plain_runs.specs.declared.status.Status.TheVariants.{Waiting, Answered}
use Rattle.plain_runs.specs.Services.{answered, waits, ends}
use Rattle.plain_runs.specs.Course.{with_machine}
use Rattle.plain_steps.specs.Paying.{IsPaid}
use Rattle.plain_steps.specs.Steps.{StandsFor}
use Rattle.plain_steps.proofs.Here.{at_node_of}
use Rattle.plain_begins.specs.Begins.{AtPoll}
use Rattle.plain_unwinds.specs.Services.{fails_unmarked}
use Rattle.plain_stretches.specs.Standing.{left_of, IsSound}
use Rattle.plain_stretches.specs.Stretches.{Halts, AtGoal, AtSend, AtPrimitive, AtHome, AtFull, AtEnd}
use Rattle.plain_stretches.proofs.Closing.{ends_settle}
use Rattle.plain_stretches.proofs.Further.{answered_rests}
use Rattle.plain_turns.specs.Asking.{place_here, cost_left}
use Rattle.plain_turns.specs.Resting.{IsAtTrap, HasRun}
use Rattle.plain_turns.specs.Turns.{GoalsEnd, AnswersEnd, StoresFill}
use Rattle.source_model.proofs.Forming.{steps_form}
use Rattle.plain_turns.proofs.Onward.{stopped, by_count, set_status, last_step, idle, ready_as, paid_once_settled, paid_settled, error_ends}
use Rattle.plain_turns.proofs.Places.{filled_points, behind_place}

-- Nothing was left of the goal.
goal_at : (h : Host) (trap : ℕ) (from : State) (target : ℕ) (out : List ℕ) → (x : IsAtTrap h trap from target out) → trap ≡ 2 → Halts x.sense (with_machine h x.last) x.state x.on trap h.machine
    → (20 ≤ h.machine.pc) × ((goal : ℕ) → goal ≤ 1000000000 → HasRun (waits goal (cost_left h) h) from target out)
goal_at h trap from target out x two (AtGoal e none w) = (
  omega (arith, w.moved.stands.here),
  λ goal few.
      let cost = cost_left h in
      let to = waits goal cost h in
      let paid = paid_settled h from target out (stopped h trap from target out x) (x.last.pc + 20) w.moved goal in
      record {
        state = x.state;
        runs = by_count (target - from.steps) x.done (silent from) (omega (arith, none, x.left_is, x.counted)) ∙ x.runs;
        rests = record {
          sense = x.sense;
          sound = (w.again goal cost few).on.sound;
          parks = AtPoll x.on.body x.on.number x.on.node (w.there goal cost few);
          formed = x.formed;
          ready = ready_as to.machine to.statuses to.steps to.cost h x.ready;
          start = x.start;
          paid = record { room = paid.room; top = paid.top; left = paid.left };
        };
      },
)
goal_at h trap from target out x two (AtSend e q) = absurd (omega (arith, e, two))
goal_at h trap from target out x two (AtPrimitive e q) = absurd (omega (arith, e, two))
goal_at h trap from target out x two (AtHome e q) = absurd (omega (arith, e, two))
goal_at h trap from target out x two (AtFull e q) = absurd (omega (arith, e, two))
goal_at h trap from target out x two (AtEnd e q) = absurd (omega (arith, e, two))

pub goals_end : GoalsEnd
goals_end h from target out x = goal_at h 2 from target out x refl x.halts

-- The oldest activation has answered.
thread_there : (h : Host) (from c : ℕ) (ss : List Status) (s : Status) → slice_get ss c ≡ Some s → slice_get (threads_from h from ss) c ≡ Some (thread_of h (from + c) s)
thread_there h from c [] s e = absurd (cc)
thread_there h from zero (x ∷ ss) s e =
    let same : x ≡ s = (let f : Some x ≡ Some s = e in cc) in
    ap (λ k. Some (thread_of h k x)) (omega arith) ∙ ap (λ y. Some (thread_of h (from + 0) y)) same
thread_there h from (suc c) (x ∷ ss) s e = thread_there h (from + 1) c ss s e ∙ ap (λ k. Some (thread_of h k s)) (omega arith)

answered_by : (wants : ℕ → Bool) (z : Sense) (at w : ℕ) (o : Option Activity) → IsActivity wants z at o (Some (Answer w)) → (v : Value) × (o ≡ Some (Ended_with v))
answered_by wants z at w (Some (Ended_with v)) is = (v, refl)
answered_by wants z at w (Some (Running all)) is = absurd is
answered_by wants z at w (Some (Ended_by e p)) is = absurd is
answered_by wants z at w None is = absurd is

-- a state for which a host stands whose current activity has answered
has_answered : (z : Sense) (h : Host) (s : State) (w : ℕ) → StandsFor z h s → slice_get h.statuses h.current ≡ Some (Answered w) → (v : Value) × (slice_get s.activities s.current ≡ Some (Ended_with v))
has_answered z h s w f is =
    let there : slice_get (raw_of h).threads h.current ≡ Some (Answer w) = thread_there h 0 h.current h.statuses (Answered w) is in
    let P : Option Thread → Type 0 = λ t. IsActivity (makes_blocks s) z h.current (slice_get s.activities h.current) t in
    let q = answered_by (makes_blocks s) z h.current w (slice_get s.activities h.current) (subst P there (f.stands.activity h.current)) in
    (q.0, ap (slice_get s.activities) (sym f.stands.current) ∙ q.1)

answer_at : (h : Host) (trap : ℕ) (from : State) (target : ℕ) (out : List ℕ) → (x : IsAtTrap h trap from target out) → trap ≡ 9 → Halts x.sense (with_machine h x.last) x.state x.on trap h.machine
    → (goal : ℕ) → goal ≤ 1000000000 → HasRun (ends goal (cost_left h) h) from target out
answer_at h trap from target out x nine (AtGoal e none w) goal few = absurd (omega (arith, e, nine))
answer_at h trap from target out x nine (AtSend e q) goal few = absurd (omega (arith, e, nine))
answer_at h trap from target out x nine (AtPrimitive e q) goal few = absurd (omega (arith, e, nine))
answer_at h trap from target out x nine (AtHome e q) goal few = absurd (omega (arith, e, nine))
answer_at h trap from target out x nine (AtFull e q) goal few = absurd (omega (arith, e, nine))
answer_at h trap from target out x nine (AtEnd e q) goal few =
    let at = with_machine h x.last in
    let s = x.state in
    let t = (step s).state in
    let v = x.on.at.view in
    let cost = cost_left h in
    let to = ends goal cost h in
    let some : 0 < left_of at = omega (arith, q.can.left) in
    let P : MachineState → Type 0 = λ m. IsSound q.ends.sense (ends goal cost (with_machine h m)) t in
    let Q : MachineState → Type 0 = λ m. StandsFor q.ends.sense (answered (with_machine h m)) t in
    let W : MachineState → Type 0 = λ m. IsWithin m.memory in
    let sound = subst P (sym q.there) (ends_settle x.sense at s x.on.sound q.ends goal cost few) in
    let stood = subst Q (sym q.there) q.ends.stands in
    let whole = subst W (sym q.there) q.ends.hosted.within in
    let done = has_answered q.ends.sense (answered h) t (h.machine.regs 8) stood (set_status h.statuses h.current (Answered (h.machine.regs 8)) (Waiting v.sp v.pc v.known) v.running) in
    let now : step s ≡ silent t = (λ i. record { state = t; out = q.ends.silent i }) in
    let costs : h.cost + h.machine.regs 3 ≡ t.cost = stood.stands.cost in
    let top : x.last.regs 6 ≤ x.start + 4 * (h.cost + x.last.regs 3) = x.paid.top in
    let left : word_at x.last.memory 0x30000004 + h.cost ≡ 4194304 = x.paid.left in
    let paid : IsPaid x.start h = record {
      room = x.paid.room;
      top = omega (arith, top, ap (λ (m : MachineState). m.regs 6) q.there, ap (λ (m : MachineState). m.regs 3) q.there, q.ends.top, q.ends.cost);
      left = omega (arith, left, ap (λ (m : MachineState). word_at m.memory 0x30000004) q.there, q.ends.left);
    } in
    let settles = paid_once_settled x.start h goal paid whole (omega (arith, costs, stood.stands.within)) in
    record {
      state = t;
      runs = last_step x.done target from.steps from s t out x.runs (omega (arith, some, x.left_is, x.counted)) now (λ n. answered_rests n t done.0 done.1);
      rests = record {
        sense = q.ends.sense;
        sound = sound;
        parks = idle to (Answered (h.machine.regs 8)) h.statuses refl (λ sp pc n same. cc);
        formed = subst (λ (r : Reached). IsWellFormed r.state) now (steps_form s x.formed);
        ready = ready_as to.machine to.statuses to.steps to.cost h x.ready;
        start = x.start;
        paid = record { room = settles.room; top = settles.top; left = settles.left };
      };
    }

pub answers_end : AnswersEnd
answers_end h from target out x goal few = answer_at h 9 from target out x refl x.halts goal few

-- A block can't be paid.
full_at : (h : Host) (trap : ℕ) (from : State) (target : ℕ) (out : List ℕ) → (x : IsAtTrap h trap from target out) → trap ≡ 8 → Halts x.sense (with_machine h x.last) x.state x.on trap h.machine
    → (goal : ℕ) → goal ≤ 1000000000 → HasRun (fails_unmarked goal (cost_left h) errors.StoreFull (place_here h) h) from target out
full_at h trap from target out x eight (AtGoal e none w) goal few = absurd (omega (arith, e, eight))
full_at h trap from target out x eight (AtSend e q) goal few = absurd (omega (arith, e, eight))
full_at h trap from target out x eight (AtPrimitive e q) goal few = absurd (omega (arith, e, eight))
full_at h trap from target out x eight (AtHome e q) goal few = absurd (omega (arith, e, eight))
full_at h trap from target out x eight (AtEnd e q) goal few = absurd (omega (arith, e, eight))
full_at h trap from target out x eight (AtFull e q) goal few =
    let at = with_machine h x.last in
    let s = x.state in
    let f = q.full in
    let node = nodes.BlockLit q.body in
    let m = x.last in
    let M : MachineState → Type 0 = λ y. Moved m y f.at m.memory (m.regs 2) in
    let mv = subst M (sym q.there) f.full.moved in
    let its = at_node_of x.sense at s x.on.body x.on.number node x.on.sound.stands q.at in
    let same : its.young ≡ f.sender = (let both : Some (Running (its.young ∷ its.older)) ≡ Some (Running (f.sender ∷ f.older)) = sym its.at.here ∙ f.here in cc) in
    let node_is : node_at (body_of s f.sender.body) f.sender.next ≡ node = ap (λ (y : Activation). node_at (body_of s y.body) y.next) (sym same) ∙ its.at.node_is in
    let place = behind_place x.sense at s x.on h.machine f.sender f.older f.here (filled_points x.sense at s x.on h.machine q) in
    let is : step s ≡ silent (with_current (Ended_by errors.StoreFull (place_of s f.sender)) s) = step_at s f.sender f.older node f.here node_is ∙ ap (settles (here_of s f.sender f.older)) f.error in
    let now : step s ≡ silent (with_current (Ended_by errors.StoreFull (place_here h)) s) = is ∙ ap (λ p. silent (with_current (Ended_by errors.StoreFull p) s)) place in
    error_ends h from target out (stopped h trap from target out x) f.at q.can mv f.sender f.older f.here errors.StoreFull (place_here h) now goal few

pub stores_fill : StoresFill
stores_fill h from target out x goal few = full_at h 8 from target out x refl x.halts goal few
