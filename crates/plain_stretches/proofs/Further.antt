-- Runs of the source.
use Rattle.std.proofs.Common.{◌≡◌, ℕ, zero, suc, ◌+◌, refl, ◌∙◌, ap, sym, arith, append_assoc, append-nil}
use Rattle.std.specs.Prelude.{◌++◌, List, [], Some, slice_get}
use Rattle.self_terms.specs.declared.errors.ErrorName.{ErrorName}
use Rattle.self_terms.specs.declared.nodes.Place.{Place}
use Rattle.self_terms.specs.declared.values.Value.{Value}
use Rattle.source_model.specs.State.{Answered, Failed, State, Reached, silent}
use Rattle.source_model.specs.Step.{advanced, step, onward, run}
use Rattle.raw_steps.proofs.Fixed.{step_fixed}
use Rattle.plain_stretches.specs.Printing.{printed}

-- Runs.

pub none_run : (s : State) → run 0 (silent s) ≡ silent s
unfolding run
none_run s = refl

pub next_run : (n : ℕ) (s : State) (out : List ℕ) → (step s).out ≡ out → run (suc n) (silent s) ≡ run n (printed (step s).state out)
unfolding run
next_run n s out prints = ap (λ y. run n (printed (step s).state y)) prints

-- a step that stays silent, whatever it is
pub then_run : (n : ℕ) (s t : State) → step s ≡ silent t → run (suc n) (silent s) ≡ run n (silent t)
unfolding run
then_run n s t e = ap (λ t. run n (record t { out = [] ++ t.out })) e

by_count : (a b : ℕ) (r : Reached) → a ≡ b → run a r ≡ run b r
by_count a b r e = ap (λ k. run k r) e

pub further : (a b : ℕ) (r : Reached) → run (a + b) r ≡ run b (run a r)
unfolding run
further zero b r = by_count (0 + b) b r (omega arith)
further (suc a) b r = by_count (suc a + b) (suc (a + b)) r (omega arith) ∙ further a b (onward r)

-- What was printed before stands in front of what a run prints.

abbrev behind : List ℕ → Reached → Reached
behind before r = record r { out = before ++ r.out }

onward_behind : (before : List ℕ) (r : Reached) → onward (behind before r) ≡ behind before (onward r)
onward_behind before r = ap (printed (step r.state).state) (append_assoc before r.out (step r.state).out)

run_behind : (n : ℕ) (before : List ℕ) (r : Reached) → run n (behind before r) ≡ behind before (run n r)
unfolding run
run_behind zero before r = refl
run_behind (suc n) before r = ap (run n) (onward_behind before r) ∙ run_behind n before (onward r)

pub printed_run : (n : ℕ) (s t : State) (before out : List ℕ) → run n (silent s) ≡ printed t out → run n (printed s before) ≡ printed t (before ++ out)
printed_run n s t before out e = ap (λ y. run n (printed s y)) (sym (append-nil before)) ∙ run_behind n before (silent s) ∙ ap (behind before) e

pub printed_step : (s t : State) (before out : List ℕ) → step s ≡ printed t out → run 1 (printed s before) ≡ printed t (before ++ out)
unfolding run
printed_step s t before out e = ap (behind before) e

-- an activity that has ended stays so
pub answered_rests : (n : ℕ) (s : State) (v : Value) → slice_get s.activities s.current ≡ Some (Answered v) → run n (silent s) ≡ silent s
unfolding run step
answered_rests zero s v e = refl
answered_rests (suc n) s v e = then_run n s s (ap (advanced s) e) ∙ answered_rests n s v e

pub failed_rests : (n : ℕ) (s : State) (x : ErrorName) (p : Place) → slice_get s.activities s.current ≡ Some (Failed x p) → run n (silent s) ≡ silent s
unfolding run step
failed_rests zero s x p e = refl
failed_rests (suc n) s x p e = then_run n s s (ap (advanced s) e) ∙ failed_rests n s x p e

-- No step changes what a session knows of its language.

-- names, the objects that the language itself knows, and the first of the strings that every world has
pub record Keeps (s t : State) : Type 0 where
  pub names : t.names ≡ s.names
  pub core : t.core ≡ s.core
  pub fixed : t.fixed ≡ s.fixed

step_keeps : (s : State) → Keeps s (step s).state
step_keeps s = (let x = step_fixed s in record { names = x.names; core = x.core; fixed = x.fixed })

pub run_keeps : (n : ℕ) (r : Reached) → Keeps r.state (run n r).state
unfolding run
run_keeps zero r = record { names = refl; core = refl; fixed = refl }
run_keeps (suc n) r =
    let one = step_keeps r.state in
    let more = run_keeps n (onward r) in
    record { names = more.names ∙ one.names; core = more.core ∙ one.core; fixed = more.fixed ∙ one.fixed }
