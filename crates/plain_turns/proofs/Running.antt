-- A run begins, and comes to a trap.
use Rattle.std.proofs.Common.{◌≡◌, ◌≢◌, ℕ, ◌+◌, ◌^◌, ◌<◌, ◌≤◌, refl, ◌∙◌, ap, sym, subst, arith, inl, inr}
use Rattle.std.specs.Prelude.{◌⊎◌, [], Some, slice_get}
use Rattle.std.proofs.lemmas.Option.{slice_get_within}
use Rattle.sparc_machine.specs.State.{MachineState}
use Rattle.source_model.specs.State.{State}
use Rattle.raw_steps.specs.Stands.{Sense}
use Rattle.plain_words.specs.Moves.{Moved}
use Rattle.plain_runs.specs.Host.{Host}
use Rattle.plain_runs.specs.declared.status.Status.TheVariants.{Waiting}
use Rattle.plain_runs.specs.Course.{with_machine}
use Rattle.plain_steps.specs.Paying.{IsPaid}
use Rattle.plain_begins.specs.Begins.{CanPark, AtPoll, Idle}
use Rattle.plain_unwinds.specs.Services.{CanUnwind}
use Rattle.plain_unwinds.proofs.Anywhere.{may_unwind}
use Rattle.plain_stretches.specs.Printing.{printed}
use Rattle.plain_stretches.specs.Standing.{IsOn}
use Rattle.plain_stretches.specs.Stretches.{Ends, Halts, AtGoal, AtSend, AtPrimitive, AtHome, AtFull, AtEnd}
use Rattle.plain_stretches.proofs.Further.{none_run}
use Rattle.plain_stretches.proofs.Joining.{runs_join}
use Rattle.plain_stretches.proofs.Stretches.{polls_stretch, stretches_run}
use Rattle.plain_turns.specs.Asking.{cost_left, goes_back}
use Rattle.plain_turns.specs.Resting.{Rests}
use Rattle.plain_turns.specs.Turns.{RunsBegin, RunsCome, TrapsTell, ObjectsCount}
use Rattle.plain_turns.proofs.Formed.{run_forms}
use Rattle.plain_turns.proofs.Back.{back_again}
use Rattle.plain_turns.proofs.Onward.{paid_once_settled, ready_as}

-- a host that rests while its current activity runs is at a poll
rests_on : (h : Host) (s : State) (sp pc known : ℕ) → (r : Rests h s) → slice_get h.statuses h.current ≡ Some (Waiting sp pc known) → CanPark h → IsOn r.sense h s
rests_on h s sp pc known r running (AtPoll b n node at) = record { sound = r.sound; body = b; number = n; node = node; at = at }
rests_on h s sp pc known r running (Idle none) = absurd (none sp pc known running)

unmoved : (h : Host) (z : Sense) (s : State) → (on : IsOn z h s) → Moved h.machine h.machine (h.machine.pc + 0) h.machine.memory (h.machine.regs 2)
unmoved h z s on =
    let P : ℕ → Type 0 = λ p. Moved h.machine h.machine p h.machine.memory (h.machine.regs 2) in
    subst P (omega arith) (record { stands = on.at.stands; memory_is = refl; counted = refl; kept = λ r no. refl; older = refl })

pub runs_begin : RunsBegin
runs_begin h s sp pc known r running goal few =
    let on = rests_on h s sp pc known r running r.parks in
    let set = back_again r.sense h s h.machine 0 on (unmoved h r.sense s on) goal (cost_left h) few in
    let x = goes_back 0 goal (cost_left h) h in
    let ready = ready_as x.machine x.statuses x.steps x.cost h r.ready in
    let before : h.cost + h.machine.regs 3 ≡ s.cost = r.sound.stands.stands.cost in
    let settles = paid_once_settled r.start h goal r.paid r.sound.hosted.within (omega (arith, before, r.sound.stands.stands.within)) in
    let paid : IsPaid r.start x = record { room = settles.room; top = settles.top; left = settles.left } in
    let goes = polls_stretch r.start r.sense x s goal r.formed set ready.fit ready.maps paid in
    record {
      sense = r.sense;
      state = s;
      done = 0;
      before = [];
      runs = none_run s;
      counted = omega arith;
      all = r.sound.runs;
      current = r.sound.current;
      formed = r.formed;
      ready = ready;
      start = r.start;
      left = goal;
      near = few;
      left_is = refl;
      stretch = goes.0;
      out_is = sym goes.1;
    }

-- At a trap the machine has gone on from the node's poll with nothing changed but scratch registers, or the oldest activation has answered.
data HasCome (z : Sense) (h : Host) (s : State) (trap : ℕ) (to : MachineState) : Type 0 where
  Stays : trap ≢ 9 → (p : ℕ) → Moved h.machine to p h.machine.memory (h.machine.regs 2) → HasCome z h s trap to
  Leaves : trap ≡ 9 → Ends z h s to → HasCome z h s trap to

moved_to : (m to there : MachineState) (p : ℕ) → to ≡ there → Moved m there p m.memory (m.regs 2) → Moved m to p m.memory (m.regs 2)
moved_to m to there p e mv = let P : MachineState → Type 0 = λ y. Moved m y p m.memory (m.regs 2) in subst P (sym e) mv

has_come : (z : Sense) (h : Host) (s : State) (on : IsOn z h s) (trap : ℕ) (to : MachineState) → Halts z h s on trap to → HasCome z h s trap to
has_come z h s on trap to (AtGoal e none w) = Stays (λ nine. absurd (omega (arith, e, nine))) (h.machine.pc + 20) w.moved
has_come z h s on trap to (AtSend e q) = Stays (λ nine. absurd (omega (arith, e, nine))) q.sent.at (moved_to h.machine to q.sent.asks.to q.sent.at q.there q.sent.asks.moved)
has_come z h s on trap to (AtPrimitive e q) = Stays (λ nine. absurd (omega (arith, e, nine))) q.performed.at (moved_to h.machine to q.performed.asks.to q.performed.at q.there q.performed.asks.moved)
has_come z h s on trap to (AtHome e q) = Stays (λ nine. absurd (omega (arith, e, nine))) q.asks.at (moved_to h.machine to q.asks.asks.to q.asks.at q.there q.asks.asks.moved)
has_come z h s on trap to (AtFull e q) = Stays (λ nine. absurd (omega (arith, e, nine))) q.full.at (moved_to h.machine to q.full.full.to q.full.at q.there q.full.full.moved)
has_come z h s on trap to (AtEnd e q) = Leaves e q

-- what is so there of the counts
record Counts (h : Host) (s : State) (to : MachineState) : Type 0 where
  pub least : s.steps ≤ h.steps + to.regs 2
  pub most : h.steps + to.regs 2 ≤ s.steps + 1
  pub cost : h.cost + to.regs 3 ≤ 4194304

counts_at : (z : Sense) (h : Host) (s : State) (on : IsOn z h s) (trap : ℕ) (to : MachineState) → HasCome z h s trap to → Counts h s to
counts_at z h s on trap to (Stays ne p mv) =
    let steps : h.steps + h.machine.regs 2 ≡ s.steps = on.sound.stands.stands.steps in
    let cost : h.cost + h.machine.regs 3 ≡ s.cost = on.sound.stands.stands.cost in
    record { least = omega (arith, steps, mv.counted); most = omega (arith, steps, mv.counted); cost = omega (arith, cost, on.sound.stands.stands.within, mv.kept 3 refl) }
counts_at z h s on trap to (Leaves e q) =
    let steps : h.steps + q.ends.to.regs 2 ≡ _ = q.ends.stands.stands.steps in
    let cost : h.cost + q.ends.to.regs 3 ≡ _ = q.ends.stands.stands.cost in
    let two : to.regs 2 ≡ q.ends.to.regs 2 = ap (λ (m : MachineState). m.regs 2) q.there in
    let three : to.regs 3 ≡ q.ends.to.regs 3 = ap (λ (m : MachineState). m.regs 3) q.there in
    record { least = omega (arith, steps, two, q.ends.counted); most = omega (arith, steps, two, q.ends.counted); cost = omega (arith, cost, three, q.ends.stands.stands.within) }

pub runs_come : RunsCome
runs_come h from target out most g far =
    let x = g.stretch in
    let run = stretches_run g.start g.sense h g.state g.left (omega (arith, g.near)) x most far in
    record {
      trap = x.trap;
      instructions = x.instructions;
      to = x.to;
      runs = run;
      goes = x.goes;
      at = record {
        sense = x.sense;
        state = x.state;
        done = g.done + x.steps;
        runs = runs_join g.done x.steps from g.state x.state g.before x.out g.runs x.runs ∙ ap (printed x.state) (sym g.out_is);
        counted = omega (arith, g.counted, x.counted);
        last = x.last;
        on = x.on;
        formed = run_forms x.steps g.state x.state x.out x.runs g.formed;
        ready = ready_as x.to h.statuses h.steps h.cost h g.ready;
        start = g.start;
        paid = x.paid;
        near = omega (arith, x.still, g.near);
        left_is = omega (arith, x.still, g.left_is, x.counted);
        stands = x.stands;
        halts = x.halts;
      };
      counts = let c = counts_at x.sense (with_machine h x.last) x.state x.on x.trap x.to (has_come x.sense (with_machine h x.last) x.state x.on x.trap x.to x.halts) in omega (arith, c.least, x.counted);
    }

service_at : (z : Sense) (h : Host) (s : State) (on : IsOn z h s) (trap : ℕ) (to : MachineState) → Halts z h s on trap to → (trap ≡ 1) ⊎ (trap ≡ 2) ⊎ (trap ≡ 3) ⊎ (trap ≡ 4) ⊎ (trap ≡ 8) ⊎ (trap ≡ 9)
service_at z h s on trap to (AtSend e q) = inl e
service_at z h s on trap to (AtGoal e none w) = inr (inl e)
service_at z h s on trap to (AtPrimitive e q) = inr (inr (inl e))
service_at z h s on trap to (AtHome e q) = inr (inr (inr (inl e)))
service_at z h s on trap to (AtFull e q) = inr (inr (inr (inr (inl e))))
service_at z h s on trap to (AtEnd e q) = inr (inr (inr (inr (inr e))))

-- the current activity may end
ends_at : (z : Sense) (h : Host) (s : State) (on : IsOn z h s) (trap : ℕ) (to : MachineState) → HasCome z h s trap to → trap ≢ 9 → CanUnwind (with_machine h to)
ends_at z h s on trap to (Stays ne p mv) other = may_unwind h on.body on.number on.node on.at on.sound.hosted on.sound.runs to p mv s z on.sound.stands
ends_at z h s on trap to (Leaves e q) other = absurd (other e)

-- the word behind a trap has an address
next_at : (z : Sense) (h : Host) (s : State) (trap : ℕ) (to : MachineState) → HasCome z h s trap to → to.pc < 0x12000000 → trap ≢ 9 → to.npc + 4 < 2 ^ 32
next_at z h s trap to (Stays ne p mv) low other = omega (arith, low, mv.stands.here, mv.stands.next)
next_at z h s trap to (Leaves e q) low other = absurd (other e)

pub objects_count : ObjectsCount
objects_count h trap from target out x = sym x.on.sound.stands.stands.heap.numbered

pub traps_tell : TrapsTell
traps_tell h trap from target out x =
    let v = x.on.at.view in
    let at = with_machine h x.last in
    let come = has_come x.sense at x.state x.on trap h.machine x.halts in
    let c = counts_at x.sense at x.state x.on trap h.machine come in
    record {
      service = service_at x.sense at x.state x.on trap h.machine x.halts;
      running = slice_get_within h.statuses h.current (Waiting v.sp v.pc v.known) v.running;
      far = omega (arith, c.least, x.left_is, x.near);
      near = omega (arith, c.most, x.left_is);
      sums = c.cost;
      ends = ends_at x.sense at x.state x.on trap h.machine come;
      on = next_at x.sense at x.state trap h.machine come x.stands.can.to;
      low = omega (arith, x.stands.can.to);
    }
