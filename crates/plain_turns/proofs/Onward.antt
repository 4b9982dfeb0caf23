-- What a service at a trap leads to: on, or to the end.
use Rattle.std.proofs.Common.{◌≡◌, ◌≢◌, ℕ, zero, suc, ◌+◌, ◌-◌, ◌*◌, ◌<◌, ◌≤◌, refl, ◌∙◌, ap, sym, subst, arith}
use Rattle.std.specs.Prelude.{List, [], ◌∷◌, ◌++◌, Some, slice_get, slice_set}
use Rattle.self_terms.specs.declared.errors.ErrorName.{ErrorName}
use Rattle.self_terms.specs.declared.nodes.Place.{Place}
use Rattle.sparc_store.specs.Words.{Words, word_at, IsWithin}
use Rattle.sparc_machine.specs.State.{MachineState}
use Rattle.source_model.specs.Formed.{IsWellFormed}
use Rattle.source_model.specs.State.{Activation, Running, Failed as Ended_by, State, Reached, silent, with_current}
use Rattle.source_model.specs.Step.{step, run}
use Rattle.raw_steps.specs.Stands.{Sense}
use Rattle.plain_words.specs.Moves.{Moved}
use Rattle.plain_runs.specs.Host.{Host}
use Rattle.plain_runs.specs.declared.status.Status.{Status}
use Rattle.plain_runs.specs.declared.status.Status.TheVariants.{Waiting, Failed}
use Rattle.plain_runs.specs.Services.{settled}
use Rattle.plain_runs.specs.Course.{with_machine, AllRun, CanGo}
use Rattle.plain_steps.specs.Paying.{IsPaid}
use Rattle.plain_sends.proofs.Settling.{left_is as left_there}
use Rattle.plain_begins.specs.Begins.{CanPark, Idle}
use Rattle.plain_unwinds.specs.Services.{fails_unmarked}
use Rattle.plain_unwinds.proofs.Ended.{activities_end_unmarked}
use Rattle.plain_stretches.specs.Printing.{printed}
use Rattle.plain_stretches.specs.Standing.{IsOn, left_of}
use Rattle.plain_stretches.specs.Stretches.{StretchOn}
use Rattle.plain_stretches.proofs.Further.{then_run, failed_rests}
use Rattle.plain_stretches.proofs.Joining.{runs_join}
use Rattle.plain_stretches.proofs.Settled.{set_there}
use Rattle.plain_turns.specs.Asking.{count, cost_left}
use Rattle.plain_turns.specs.Resting.{IsReady, IsAtTrap, HasRun}
use Rattle.plain_turns.specs.Turns.{StepsOn}
use Rattle.plain_turns.proofs.Formed.{failed_formed}

pub by_count : (a b : ℕ) (r : Reached) → a ≡ b → run a r ≡ run b r
by_count a b r e = ap (λ k. run k r) e

-- nothing more was printed
pub no_more : (s : State) (out : List ℕ) → printed s (out ++ []) ≡ printed s out
no_more s out = ap (printed s) (all out)
  where
    all : (xs : List ℕ) → xs ++ [] ≡ xs
    all [] = refl
    all (x ∷ xs) = ap (λ ys. x ∷ ys) (all xs)

pub set_status : {A : Type 0} (xs : List A) (c : ℕ) (a y : A) → slice_get xs c ≡ Some y → slice_get (slice_set xs c a) c ≡ Some a
set_status [] c a y e = absurd (cc)
set_status (x ∷ xs) zero a y e = refl
set_status (x ∷ xs) (suc c) a y e = set_status xs c a y e

-- Where the step that is next ends the activity, a run of that one more or further ends in the same state.
pub last_step : (done target steps : ℕ) (from s t : State) (out : List ℕ) → run done (silent from) ≡ printed s out → target - steps ≡ done + suc (target - steps - done - 1) → step s ≡ silent t → ((n : ℕ) → run n (silent t) ≡ silent t) → run (target - steps) (silent from) ≡ printed t out
last_step done target steps from s t out runs far now still =
    let k = target - steps - done - 1 in
    by_count (target - steps) (done + suc k) (silent from) far ∙ runs_join done (suc k) from s t out [] runs (then_run k s t now ∙ still k) ∙ no_more t out

-- the current activity is idle once its status says so
pub idle : (h : Host) (st : Status) (ss : List Status) → h.statuses ≡ slice_set ss h.current st → ((sp pc n : ℕ) → st ≢ Waiting sp pc n) → CanPark h
idle h st ss is ended = Idle (λ sp pc n e. ended sp pc n (sym (set_there ss h.current st (Waiting sp pc n) (ap (λ xs. slice_get xs h.current) (sym is) ∙ e))))

-- what stays so through all commands rests on no machine, no status and no sums
pub ready_as : (m : MachineState) (ss : List Status) (steps cost : ℕ) (h : Host) → IsReady h → IsReady (record h { machine = m; statuses = ss; steps = steps; cost = cost })
ready_as m ss steps cost h r = record {
  fit = r.fit;
  room = record { each = r.room.each; left = r.room.left; lobby = r.room.lobby };
  maps = record { few = r.maps.few; contexts = r.maps.contexts; bodies = r.maps.bodies; blocks = r.maps.blocks };
}

-- The heap's room is still paid for once the counts are settled, where the plain cost is within its limit.
pub paid_once_settled : (start : ℕ) (h : Host) (goal : ℕ) → IsPaid start h → IsWithin h.machine.memory → h.cost + h.machine.regs 3 ≤ 4194304 → IsPaid start (settled goal (cost_left h) h)
paid_once_settled start h goal paid whole fits = record {
  room = paid.room;
  top = omega (arith, paid.top);
  left = omega (arith, left_there h.machine.memory goal (cost_left h) whole, fits);
}

-- The machine of a host has stopped: it came from a node's poll, where it was this, in the middle of a run from a state.
pub record IsStopped (h : Host) (from : State) (target : ℕ) (out : List ℕ) : Type 0 where
  pub sense : Sense
  pub state : State
  pub done : ℕ
  pub runs : run done (silent from) ≡ printed state out
  pub counted : state.steps ≡ from.steps + done
  pub last : MachineState
  pub on : IsOn sense (with_machine h last) state
  pub formed : IsWellFormed state
  pub ready : IsReady h
  pub start : ℕ
  pub paid : IsPaid start (with_machine h last)
  pub near : left_of (with_machine h last) ≤ 1000000000
  pub left_is : state.steps + left_of (with_machine h last) ≡ target

-- so it has at each trap, and so it had if it were another machine
abbrev pub stopped_as : (h : Host) (trap : ℕ) (from : State) (target : ℕ) (out : List ℕ) → IsAtTrap h trap from target out → (m : MachineState) → IsStopped (with_machine h m) from target out
stopped_as h trap from target out x m = record {
  sense = x.sense;
  state = x.state;
  done = x.done;
  runs = x.runs;
  counted = x.counted;
  last = x.last;
  on = x.on;
  formed = x.formed;
  ready = ready_as m h.statuses h.steps h.cost h x.ready;
  start = x.start;
  paid = x.paid;
  near = x.near;
  left_is = x.left_is;
}

abbrev pub stopped : (h : Host) (trap : ℕ) (from : State) (target : ℕ) (out : List ℕ) → IsAtTrap h trap from target out → IsStopped h from target out
stopped h trap from target out x = stopped_as h trap from target out x h.machine

module _ (h : Host) (from : State) (target : ℕ) (out : List ℕ) (x : IsStopped h from target out) where
  abbrev pub at_poll : Host
  at_poll = with_machine h x.last

  -- so much is left when the step is done
  abbrev pub rest : ℕ
  rest = target - count h - 1

  -- a machine that has changed scratch registers alone since the poll shows the same counts, top and control words
  pub counted_is : (p : ℕ) → Moved x.last h.machine p x.last.memory (x.last.regs 2) → count h ≡ x.state.steps
  counted_is p mv = let before : h.steps + x.last.regs 2 ≡ x.state.steps = x.on.sound.stands.stands.steps in omega (arith, before, mv.counted)

  pub rest_is : (p : ℕ) → CanGo at_poll → Moved x.last h.machine p x.last.memory (x.last.regs 2) → suc rest ≡ left_of at_poll
  rest_is p can mv =
      let some : 0 < left_of at_poll = omega (arith, can.left) in
      omega (arith, some, counted_is p mv, x.left_is)

  pub paid_here : (p : ℕ) → Moved x.last h.machine p x.last.memory (x.last.regs 2) → IsPaid x.start h
  paid_here p mv = record {
    room = x.paid.room;
    top = (let q : x.last.regs 6 ≤ x.start + 4 * (h.cost + x.last.regs 3) = x.paid.top in omega (arith, q, mv.kept 6 refl, mv.kept 3 refl));
    left = (let q : word_at x.last.memory 0x30000004 + h.cost ≡ 4194304 = x.paid.left in ap (λ (y : Words). word_at y 0x30000004 + h.cost) mv.memory_is ∙ q);
  }

  -- the plain cost is within its limit
  pub cost_fits : (p : ℕ) → Moved x.last h.machine p x.last.memory (x.last.regs 2) → h.cost + h.machine.regs 3 ≤ 4194304
  cost_fits p mv =
      let before : h.cost + x.last.regs 3 ≡ x.state.cost = x.on.sound.stands.stands.cost in
      omega (arith, before, x.on.sound.stands.stands.within, mv.kept 3 refl)

  -- the heap's room is still paid for once the counts are settled
  pub paid_settled : (p : ℕ) → Moved x.last h.machine p x.last.memory (x.last.regs 2) → (goal : ℕ) → IsPaid x.start (settled goal (cost_left h) h)
  paid_settled p mv goal =
      let P : Words → Type 0 = IsWithin in
      paid_once_settled x.start h goal (paid_here p mv) (subst P (sym mv.memory_is) x.on.sound.hosted.within) (cost_fits p mv)

  -- a stretch behind a service leads on
  pub goes_on : (p : ℕ) → CanGo at_poll → Moved x.last h.machine p x.last.memory (x.last.regs 2) → (to : Host) (line : List ℕ) → AllRun to → to.current < 4 → IsReady to → StretchOn x.start x.sense to x.state (suc rest) line → StepsOn h to from target (out ++ line)
  goes_on p can mv to line all low ready on =
      let left = rest_is p can mv in
      record {
        going = record {
          sense = x.sense;
          state = x.state;
          done = x.done;
          before = out;
          runs = x.runs;
          counted = x.counted;
          all = all;
          current = low;
          formed = x.formed;
          ready = ready;
          start = x.start;
          left = suc rest;
          near = omega (arith, left, x.near);
          left_is = omega (arith, left, x.left_is);
          stretch = on.stretch;
          out_is = ap (λ (ys : List ℕ). out ++ ys) (sym on.prints);
        };
        more = omega (arith, counted_is p mv, on.some);
      }

  -- an error ends the run
  pub error_ends : (p : ℕ) → CanGo at_poll → Moved x.last h.machine p x.last.memory (x.last.regs 2) → (a : Activation) (older : List Activation) → slice_get x.state.activities x.state.current ≡ Some (Running (a ∷ older))
      → (e : ErrorName) (place : Place) → step x.state ≡ silent (with_current (Ended_by e place) x.state) → (goal : ℕ) → goal ≤ 1000000000 → HasRun (fails_unmarked goal (cost_left h) e place h) from target out
  error_ends p can mv a older running e place now goal few =
      let s = x.state in
      let t = with_current (Ended_by e place) s in
      let cost = cost_left h in
      let to = fails_unmarked goal cost e place h in
      let b = activities_end_unmarked x.sense at_poll s x.on.body x.on.number x.on.node x.on.sound.stands x.on.at can e place h.machine p mv goal cost few in
      let some : 0 < left_of at_poll = omega (arith, can.left) in
      let there = set_status s.activities s.current (Ended_by e place) (Running (a ∷ older)) running in
      let paid = paid_here p mv in
      let before : h.cost + x.last.regs 3 ≡ s.cost = x.on.sound.stands.stands.cost in
      let after : to.cost + 0 ≡ s.cost = b.stands.stands.cost in
      let top : to.machine.regs 6 ≡ h.machine.regs 6 = b.top in
      let left : word_at to.machine.memory 0x30000004 ≡ cost = b.left in
      record {
        state = t;
        runs = last_step x.done target from.steps from s t out x.runs (omega (arith, some, x.left_is, x.counted)) now (λ n. failed_rests n t e place there);
        rests = record {
          sense = b.sense;
          sound = record { hosted = b.hosted; runs = x.on.sound.runs; current = x.on.sound.current; stands = b.stands };
          parks = idle to (Failed e place) h.statuses refl (λ sp pc n same. cc);
          formed = failed_formed s e place x.formed;
          ready = ready_as to.machine to.statuses to.steps to.cost h x.ready;
          start = x.start;
          paid = record {
            room = paid.room;
            top = omega (arith, top, paid.top, before, after, mv.kept 3 refl);
            left = omega (arith, left, cost_fits p mv, before, after, mv.kept 3 refl);
          };
        };
      }
