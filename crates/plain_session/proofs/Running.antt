-- Runs: what they leave as it is, what they count, and that they write behind what was written.
use Rattle.std.proofs.Common.{◌≡◌, ◌⊎◌, ℕ, zero, suc, ◌+◌, ◌≤◌, refl, ◌∙◌, ap, sym, arith, inl, inr, append_assoc, append-nil}
use Rattle.std.specs.Prelude.{◌++◌, List, length}
use Rattle.source_model.specs.State.{State, Reached, silent}
use Rattle.source_model.specs.Step.{step, onward, run}
use Rattle.raw_steps.specs.Fixed.{IsFixed}
use Rattle.raw_steps.proofs.Fixed.{step_fixed}
use Rattle.plain_stretches.specs.Printing.{printed}
use Rattle.plain_core.proofs.Counting.{CountsOn, step_counts}

-- States with the same names, bodies, core objects and fixed strings.

pub fixed_itself : (s : State) → IsFixed s s
fixed_itself s = record { names = refl; core = refl; fixed = refl; bodies = refl }

pub fixed_both : (s t u : State) → IsFixed s t → IsFixed t u → IsFixed s u
fixed_both s t u m r = record { names = r.names ∙ m.names; core = r.core ∙ m.core; fixed = r.fixed ∙ m.fixed; bodies = r.bodies ∙ m.bodies }

-- What a step leaves as it is.
pub record Remains (s t : State) : Type 0 where
  pub fixed : IsFixed s t
  pub counts : CountsOn s t

pub step_remains : (s : State) → Remains s (step s).state
step_remains s = record { fixed = step_fixed s; counts = step_counts s }

-- So does a run, which counts at most its steps.
pub record RunsOn (n : ℕ) (s t : State) : Type 0 where
  pub fixed : IsFixed s t
  pub few : t.steps ≤ s.steps + n
  pub current : t.current ≡ s.current
  pub activities : length t.activities ≡ length s.activities

few_more : (n : ℕ) (s t u : State) → CountsOn s t → RunsOn n t u → u.steps ≤ s.steps + suc n
few_more n s t u c r = let few = r.few in elim c.steps [ inl e ↦ omega (arith, e, few) | inr e ↦ omega (arith, e, few) ]

then_runs : (n : ℕ) (s t u : State) → Remains s t → RunsOn n t u → RunsOn (suc n) s u
then_runs n s t u m r = record {
  fixed = fixed_both s t u m.fixed r.fixed;
  few = few_more n s t u m.counts r;
  current = r.current ∙ m.counts.current;
  activities = r.activities ∙ m.counts.activities;
}

pub run_remains : (n : ℕ) (r : Reached) → RunsOn n r.state (run n r).state
unfolding run
run_remains zero r = record { fixed = fixed_itself r.state; few = omega arith; current = refl; activities = refl }
run_remains (suc n) r = then_runs n r.state (onward r).state (run (suc n) r).state (step_remains r.state) (run_remains n (onward r))

-- What was written before stands in front.

abbrev pub behind : List ℕ → Reached → Reached
behind text r = record { state = r.state; out = text ++ r.out }

pub onward_behind : (text : List ℕ) (r : Reached) → onward (behind text r) ≡ behind text (onward r)
onward_behind text r = ap (λ (o : List ℕ). record { state = (step r.state).state; out = o }) (append_assoc text r.out (step r.state).out)

pub run_behind : (n : ℕ) (text : List ℕ) (r : Reached) → run n (behind text r) ≡ behind text (run n r)
unfolding run
run_behind zero text r = refl
run_behind (suc n) text r = ap (run n) (onward_behind text r) ∙ run_behind n text (onward r)

pub as_behind : (q : Reached) → q ≡ behind q.out (silent q.state)
as_behind q = ap (λ (o : List ℕ). record { state = q.state; out = o }) (sym (append-nil q.out))

-- what a run writes from a silent state stands behind what was written
pub run_from : (n : ℕ) (q : Reached) (t : State) (said : List ℕ) → run n (silent q.state) ≡ printed t said → run n q ≡ printed t (q.out ++ said)
run_from n q t said e = ap (run n) (as_behind q) ∙ run_behind n q.out (silent q.state) ∙ ap (behind q.out) e
