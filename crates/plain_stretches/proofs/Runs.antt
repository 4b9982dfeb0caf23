-- Instructions one after the other are what a run of the machine does.
use Rattle.std.proofs.Common.{◌≡◌, ℕ, zero, suc, ◌+◌, ◌-◌, ◌<◌, refl, ◌∙◌, ap, sym, subst, arith}
use Rattle.std.specs.Prelude.{Option, Some, None}
use Rattle.sparc_insn.specs.declared.insn.Insn.{Insn}
use Rattle.sparc_insn.specs.declared.insn.Insn.TheVariants.{Trap}
use Rattle.sparc_machine.specs.State.{MachineState}
use Rattle.sparc_machine.specs.Running.{fetch, trap_of, done, exec, Lawful, taken, one_more}
use Rattle.sparc_machine.specs.declared.event.Event.TheVariants as events
use Rattle.plain_words.specs.Going.{Stepped, Goes, IsTrap}
use Rattle.plain_stretches.specs.Runs.{TrapsStop}

done_of : (m next : MachineState) → Stepped m next → done (fetch m) m ≡ next
done_of m next s = ap (λ o. done o m) s.fetched ∙ sym s.is

exec_count : (a b : ℕ) (m : MachineState) → a ≡ b → exec a m ≡ exec b m
exec_count a b m e = ap (λ k. exec k m) e

goes_exec : (n k : ℕ) (m to : MachineState) → Goes n m to → exec (n + k) m ≡ exec k to
unfolding Goes exec
goes_exec zero k m to g = exec_count (0 + k) k m (omega arith) ∙ ap (exec k) (sym g)
goes_exec (suc n) k m to g =
    exec_count (suc n + k) (suc (n + k)) m (omega arith)
    ∙ ap (exec (n + k)) (done_of m g.0 g.1)
    ∙ goes_exec n k g.0 to g.2

lawful_count : (a b : ℕ) (m : MachineState) → a ≡ b → Lawful a m → Lawful b m
lawful_count a b m e h = rw (← e) h

goes_lawful : (n k : ℕ) (m to : MachineState) → Goes n m to → Lawful k to → Lawful (n + k) m
unfolding Goes Lawful
goes_lawful zero k m to g h = lawful_count k (0 + k) m (omega arith) (let P : MachineState → Type 0 = λ z. Lawful k z in subst P g h)
goes_lawful (suc n) k m to g h =
    lawful_count (suc (n + k)) (suc n + k) m (omega arith)
    (g.1.can, (let P : MachineState → Type 0 = λ z. Lawful (n + k) z in subst P (sym (done_of m g.0 g.1)) (goes_lawful n k g.0 to g.2 h)))

taken_count : (a b : ℕ) (m : MachineState) → a ≡ b → taken a m ≡ taken b m
taken_count a b m e = ap (λ k. taken k m) e

one_of : (m next : MachineState) (n : ℕ) → Stepped m next → one_more (trap_of (fetch m)) n ≡ n + 1
one_of m next n s = ap (λ o. one_more o n) (ap trap_of s.fetched ∙ s.goes)

goes_taken : (n k : ℕ) (m to : MachineState) → Goes n m to → taken (n + k) m ≡ n + taken k to
unfolding Goes taken
goes_taken zero k m to g = taken_count (0 + k) k m (omega arith) ∙ ap (taken k) (sym g) ∙ omega arith
goes_taken (suc n) k m to g =
    taken_count (suc n + k) (suc (n + k)) m (omega arith)
    ∙ ap (λ z. one_more (trap_of (fetch m)) (taken (n + k) z)) (done_of m g.0 g.1)
    ∙ one_of m g.0 (taken (n + k) g.0) g.1
    ∙ ap (λ j. j + 1) (goes_taken n k g.0 to g.2)
    ∙ omega arith

-- at a trap nothing is done
trap_stays : (o : Option Insn) (m : MachineState) (t : ℕ) → trap_of o ≡ Some t → done o m ≡ m
trap_stays None m t h = refl
trap_stays (Some (Trap n)) m t h = refl
trap_stays _ m t h = cc

trap_exec : (k : ℕ) (m : MachineState) (t : ℕ) → IsTrap t m → exec k m ≡ m
unfolding exec
trap_exec zero m t h = refl
trap_exec (suc k) m t h = ap (exec k) (trap_stays (fetch m) m t h.trap) ∙ trap_exec k m t h

trap_lawful : (k : ℕ) (m : MachineState) (t : ℕ) → IsTrap t m → Lawful k m
unfolding Lawful
trap_lawful zero m t h = tt
trap_lawful (suc k) m t h = (h.can, (let P : MachineState → Type 0 = λ z. Lawful k z in subst P (sym (trap_stays (fetch m) m t h.trap)) (trap_lawful k m t h)))

none_of : (o : Option ℕ) (t n : ℕ) → o ≡ Some t → one_more o n ≡ 0
none_of o t n e = ap (λ p. one_more p n) e

trap_taken : (k : ℕ) (m : MachineState) (t : ℕ) → IsTrap t m → taken k m ≡ 0
unfolding taken
trap_taken zero m t h = refl
trap_taken (suc k) m t h = none_of (trap_of (fetch m)) t (taken k (done (fetch m) m)) h.trap

split : (n most : ℕ) → n < most → n + (most - n) ≡ most
split n most h = omega arith

pub traps_stop : TrapsStop
traps_stop n t most m to g trap few =
    let k = most - n in
    let all = split n most few in
    let P : ℕ → Type 0 = λ j. Lawful j m in
    let there : exec most m ≡ to = exec_count most (n + k) m (sym all) ∙ goes_exec n k m to g ∙ trap_exec k to t trap in
    let count : taken most m ≡ n = taken_count most (n + k) m (sym all) ∙ goes_taken n k m to g ∙ ap (λ j. n + j) (trap_taken k to t trap) ∙ omega arith in
    record {
      lawful = subst P all (goes_lawful n k m to g (trap_lawful k to t trap));
      machine = there;
      count = count;
      tells = λ new told r.
          let same : new ≡ to = r.machine ∙ there in
          let s = r.stopped (omega (arith, r.count, count, few)) in
          let here : trap_of (fetch new) ≡ Some t = ap (λ z. trap_of (fetch z)) same ∙ trap.trap in
          let one : s.0 ≡ t = (let two : Some s.0 ≡ Some t = sym s.1 ∙ here in cc) in
          record { machine = same; count = r.count ∙ count; event = s.2 ∙ ap events.Trap one };
    }
