-- Edits alone change lookups.
use Rattle.std.proofs.Common.{◌≡◌, ℕ, zero, suc, ◌+◌, ◌-◌, ◌<◌, ap, sym, subst, refl, ◌∙◌, arith, Bool, true, false, List, [], ◌∷◌, length, map}
use Rattle.std.specs.Prelude.{nat_lt, nat_le, slice_get, Option, Some, None, cond, Ok, Err, codes}
use Rattle.self_terms.specs.declared.values.Value.TheVariants as values
use Rattle.self_terms.specs.declared.values.BodyId.{BodyId}
use Rattle.self_terms.specs.declared.errors.ErrorName.TheVariants as errors
use Rattle.source_model.specs.Names.{number_of}
use Rattle.source_model.specs.Objects.{Constant, Assignable, Assignment, Parent, Method}
use Rattle.source_model.specs.State.{Activation, Activity, Running, Answered, Failed, State, Reached, silent}
use Rattle.source_model.specs.Messages.{Met, Missing, Holds, body_of, slots_of, objects, met_in, meets, meets_above, meets_through}
use Rattle.source_model.specs.Lookup.{lookup, resend, directed}
use Rattle.source_model.specs.Sends.{then_do, begun, entered, entry_cost}
use Rattle.source_model.specs.Step.{onward, run}
use Rattle.source_model.specs.Script.{Command, Spawn, Switch, Run, Continue, Step, Interrupt, Finish, Stack, Edit, Units, Machine, Advisor, refused, spawned, with_activity, spawn_met, spawn, switch, over, with_run_line, lacks, finish, continue_to, shows, advisor, command}
use Rattle.source_model.specs.Formed.{IsWellFormed}
use Rattle.source_model.specs.Lasting.{without_data, LookupsLast, RunsLast, is_edit, CommandsLast}
use Rattle.source_model.proofs.Keeping.{either}
use Rattle.source_model.proofs.Runs.{until_first}
use Rattle.source_model.proofs.Forming.{steps_form}
use Rattle.source_model.proofs.Lasting.{steps_last}

module _ (s t u : State) (first : LookupsLast s t) (second : LookupsLast t u) where
  further : (o : ℕ) → o < length s.things → o < length t.things
  further o lt = let le = first.there in omega (arith, lt, le)

  one_more : LookupsLast s u
  one_more = record {
    there = let le = first.there in let more = second.there in omega (arith, le, more);
    sent = λ o name lt. second.sent o name (further o lt) ∙ first.sent o name lt;
    above = λ holder name lt. second.above holder name (further holder lt) ∙ first.above holder name lt;
    through = λ holder parent name lt. second.through holder parent name (further holder lt) ∙ first.through holder parent name lt;
  }

module _ (s t : State) (core : t.core ≡ s.core) (things : t.things ≡ s.things) where
  objects_same : objects t ≡ objects s
  objects_same = λ i. map (slots_of (core i)) (things i)

  same_sent : (o name : ℕ) → without_data (meets t (values.Object o) name) ≡ without_data (meets s (values.Object o) name)
  unfolding meets
  same_sent o name = λ i. without_data (met_in (objects_same i) name (lookup (objects_same i) name o))

  same_above : (holder name : ℕ) → without_data (meets_above t holder name) ≡ without_data (meets_above s holder name)
  unfolding meets_above
  same_above holder name = λ i. without_data (met_in (objects_same i) name (resend (objects_same i) name holder))

  same_through : (holder parent name : ℕ) → without_data (meets_through t holder parent name) ≡ without_data (meets_through s holder parent name)
  unfolding meets_through
  same_through holder parent name = λ i. without_data (met_in (objects_same i) name (directed (objects_same i) parent name holder))

  same_last : LookupsLast s t
  same_last = record {
    there = omega (arith, ap length things);
    sent = λ o name lt. same_sent o name;
    above = λ holder name lt. same_above holder name;
    through = λ holder parent name lt. same_through holder parent name;
  }

pub runs_last : RunsLast
unfolding run
runs_last zero r e = same_last r.state r.state refl refl
runs_last (suc n) r e = one_more r.state (onward r).state (run n (onward r)).state (steps_last r.state e) (runs_last n (onward r) (steps_form r.state e))

module _ (r : Reached) (formed : IsWellFormed r.state) where
  abbrev s : State
  s = r.state

  abbrev Next : Reached → Type 0
  Next q = LookupsLast s q.state

  same : LookupsLast s s
  same = same_last s s refl refl

  runs : (n : ℕ) → Next (run n r)
  runs n = runs_last n r formed

  begun_last : (b : BodyId) (o cost : ℕ) → LookupsLast s (entered (begun s b.0 (values.Object 0) o None []) [] (record (with_activity s) { cost = cost }))
  begun_last b o cost = same_last s (entered (begun s b.0 (values.Object 0) o None []) [] (record (with_activity s) { cost = cost })) refl refl

  spawned_by : (b : BodyId) (o : ℕ) (p q : Bool) (cost : ℕ)
      → Next (spawned (cond p (then_do (cond q (Ok (record (with_activity s) { cost = cost })) (Err errors.StoreFull)) (λ (u : State). Ok (silent (entered (begun s b.0 (values.Object 0) o None []) [] u)))) (Err errors.StackOverflow)) r)
  spawned_by b o false q cost = same
  spawned_by b o true false cost = same
  spawned_by b o true true cost = begun_last b o cost

  met_last : (m : Met) → Next (spawn_met m r)
  met_last (Missing x) = same
  met_last (Holds o (Constant v)) = same
  met_last (Holds o (Assignable v)) = same
  met_last (Holds o Assignment) = same
  met_last (Holds o (Parent p)) = same
  met_last (Holds o (Method b)) = spawned_by b o (nat_lt 0 4096) (nat_le (s.cost + entry_cost (body_of s b.0)) 4194304) (s.cost + entry_cost (body_of s b.0))

  spawn_last : (name : List ℕ) → Next (spawn name r)
  spawn_last name = either Next (nat_lt (length s.activities) 4) (spawn_met (meets s (values.Object 0) (number_of s.names name)) r) (refused (codes "too many activities") r)
      (met_last (meets s (values.Object 0) (number_of s.names name))) same

  switched : (k n : ℕ) → LookupsLast s (record s { current = k; advisors = n })
  switched k n = same_last s (record s { current = k; advisors = n }) refl refl

  switch_last : (k : ℕ) → Next (switch k r)
  switch_last zero = same
  switch_last (suc k) = either Next (nat_lt k (length s.activities)) _ _ (switched k s.advisors) same

  advisor_last : (k : ℕ) → Next (advisor k r)
  advisor_last k = either Next (nat_le k s.advisors) _ _ (switched s.current _) same

  over_last : (does : List Activation → Reached → Reached) → ((all : List Activation) → Next (does all r)) → (x : Option Activity) → Next (over x does r)
  over_last does h None = same
  over_last does h (Some (Running all)) = h all
  over_last does h (Some (Answered v)) = same
  over_last does h (Some (Failed e p)) = same

  finish_last : (n : ℕ) (all : List Activation) → Next (finish n all r)
  finish_last n [] = same
  finish_last n (a ∷ older) = let h = until_first (lacks a.number) n r in subst Next (sym h.2) (runs h.0)

  command_last : (c : Command) (stop : ℕ) → is_edit c ≡ false → Next (command c stop r)
  unfolding command
  command_last (Spawn name) stop e = spawn_last name
  command_last (Switch k) stop e = switch_last k
  command_last (Run n) stop e = over_last (λ all q. with_run_line (run n q)) (λ all. runs n) (slice_get s.activities s.current)
  command_last (Continue n) stop e = over_last (λ all q. continue_to n q)
      (λ all. either Next (nat_le s.steps n) (with_run_line (run (n - s.steps) r)) (refused (codes "past") r) (runs (n - s.steps)) same) (slice_get s.activities s.current)
  command_last Step stop e = over_last (λ all q. with_run_line (run 1 q)) (λ all. runs 1) (slice_get s.activities s.current)
  command_last (Interrupt n) stop e = over_last (λ all q. with_run_line (run (stop - q.state.steps) q)) (λ all. runs (stop - s.steps)) (slice_get s.activities s.current)
  command_last (Finish n) stop e = over_last (λ all q. with_run_line (finish n all q)) (λ all. finish_last n all) (slice_get s.activities s.current)
  command_last Stack stop e = over_last shows (λ all. same) (slice_get s.activities s.current)
  command_last (Edit path text) stop e = absurd (cc)
  command_last Units stop e = same
  command_last Machine stop e = same
  command_last (Advisor k) stop e = advisor_last k

pub commands_last : CommandsLast
commands_last c stop r formed e = command_last r formed c stop e
