use Rattle.std.proofs.Common.{◌≡◌, ℕ, zero, suc, ◌≤◌, List, ◌∙◌, ap, sym, subst, arith}
use Rattle.std.specs.Prelude.{Option, Some, None}
use Rattle.sparc_machine.specs.State.{MachineState}
use Rattle.sparc_machine.specs.Running.{fetch, trap_of, done, one_more, taken}
use Rattle.sparc_machine.specs.declared.event.Event.{Event}
use Rattle.sparc_machine.specs.declared.event.Event.TheVariants as events
use Rattle.plain_host.specs.Hosted.{host}
use Rattle.plain_words.specs.Going.{Goes}
use Rattle.plain_runs.specs.Host.{Host}
use Rattle.plain_runs.specs.Course.{with_machine}
use Rattle.source_model.specs.State.{State}
use Rattle.plain_turns.specs.Resting.{IsGoing, IsAtTrap}
use Rattle.plain_turns.specs.Turns.{Comes}
use Rattle.plain_core.specs.Turning.{Came}
use Rattle.plain_turns.proofs.Running.{runs_come}
use Rattle.plain_core.proofs.turning.go.Goals as goal

comes : (h : Host) (from : State) (target : ℕ) (out : List ℕ) (g : IsGoing h from target out) → Comes h from target out 1099511627776 g
comes h from target out g = runs_come h from target out 1099511627776 g (omega arith)

same_trap : (a b : ℕ) (x : Event) → x ≡ events.Trap a → x ≡ events.Trap b → a ≡ b
same_trap a b x e f = let both : events.Trap a ≡ events.Trap b = sym e ∙ f in cc

came_to : (h to : Host) (trap : ℕ) (from : State) (target : ℕ) (out : List ℕ) (g : IsGoing h from target out) (k : Comes h from target out 1099511627776 g) → to ≡ with_machine h k.to → k.trap ≡ trap → Came h to trap from target out g
came_to h to trap from target out g k is same =
    let P : Host → Type 0 = λ y. Came h y trap from target out g in
    let Q : ℕ → Type 0 = λ t. IsAtTrap (with_machine h k.to) t from target out in
    subst P (sym is) (record { at = subst Q same k.at; counts = k.counts })

-- a run does no more instructions than it may
one_more_few : (o : Option ℕ) (k n : ℕ) → k ≤ n → one_more o k ≤ suc n
one_more_few None k n le = omega (arith, le)
one_more_few (Some t) k n le = omega arith

taken_few : (n : ℕ) (m : MachineState) → taken n m ≤ n
unfolding taken
taken_few zero m = omega arith
taken_few (suc n) m = one_more_few (trap_of (fetch m)) (taken n (done (fetch m) m)) n (taken_few n (done (fetch m) m))

pub run-told-requires : goal.run-told-requires
run-told-requires c = (comes _ c.requires.from c.args._target c.requires.out c.requires.going).runs.lawful

pub unreachable-requires : goal.unreachable-requires
unreachable-requires c =
    let k = comes _ c.requires.from c.args._target c.requires.out c.requires.going in
    let t = k.runs.tells _ c.run-told.result c.run-told.ensures.ran in
    let both : events.Trap k.trap ≡ events.Went = sym t.event ∙ c.in-Went.is in
    cc

pub returns-clause-came : goal.returns-clause-came
returns-clause-came c = λ from out g.
    let k = comes _ from c.args._target out g in
    let t = k.runs.tells _ c.run-told.result c.run-told.ensures.ran in
    let is : host c.run-told.new.self ≡ with_machine (host c.args.hosting.now) k.to = c.run-told.ensures.same ∙ ap (with_machine (host c.args.hosting.now)) t.machine in
    came_to (host c.args.hosting.now) (host c.run-told.new.self) c.in-Trap.trap from c.args._target out g k is (same_trap k.trap c.in-Trap.trap c.run-told.result.event t.event c.in-Trap.is)

pub returns-clause-went : goal.returns-clause-went
returns-clause-went c =
    let k = comes _ c.requires.from c.args._target c.requires.out c.requires.going in
    let t = k.runs.tells _ c.run-told.result c.run-told.ensures.ran in
    record {
      goes = subst (λ (n : ℕ). Goes n (host c.args.hosting.now).machine (host c.run-told.new.self).machine) (sym t.count) (subst (λ (m : MachineState). Goes k.instructions (host c.args.hosting.now).machine m) (sym t.machine) k.goes);
      is = c.run-told.ensures.same;
    }

pub returns-clause-few : goal.returns-clause-few
returns-clause-few c =
    let counted = c.run-told.ensures.ran.count in
    let few = taken_few 1099511627776 (host c.args.hosting.now).machine in
    omega (arith, counted, few)
