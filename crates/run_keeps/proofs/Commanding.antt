-- Commands that leave size, edits and advisors, and what the others leave.
use Rattle.std.proofs.Common.{◌≡◌, ◌≤◌, ℕ, zero, suc, ◌+◌, ◌-◌, refl, arith, Bool, true, false, List, [], length, map}
use Rattle.std.specs.Prelude.{◌==◌, nat_lt, nat_le, slice_get, Option, Some, None, cond, Ok, Err, codes}
use Rattle.self_terms.specs.declared.values.Value.{Value}
use Rattle.self_terms.specs.declared.values.Value.TheVariants as values
use Rattle.self_terms.specs.declared.values.BodyId.{BodyId}
use Rattle.self_terms.specs.declared.bodies.Body.{Body}
use Rattle.self_terms.specs.declared.errors.ErrorName.TheVariants as errors
use Rattle.source_model.specs.Names.{number_of}
use Rattle.source_model.specs.declared.objects.Content.{Content}
use Rattle.source_model.specs.declared.objects.Content.TheVariants.{Constant, Assignable, Assignment, Parent, Method}
use Rattle.source_model.specs.State.{Activation, Activity, Running, Answered, Failed, State, Reached, silent}
use Rattle.source_model.specs.Messages.{Met, Missing, Holds, body_of, meets}
use Rattle.source_model.specs.Sends.{then_do, begun, entered, entry_cost}
use Rattle.source_model.specs.Step.{run}
use Rattle.source_model.specs.Edits.{SlotText, TooManyNodes, own_content, follow, bodies_in, with_method, in_slot, at_path, edited}
use Rattle.source_model.specs.Script.{EditText, Read, Unread, Command, Spawn, Switch, Run, Continue, Step, Interrupt, Finish, Stack, Edit, Units, Machine, Advisor, refused, spawned, with_activity, spawn_met, spawn, switch, over, with_run_line, finish, continue_to, shows, edit_done, edit, advisor, command}
use Rattle.source_model.proofs.Keeping.{either}
use Rattle.run_keeps.specs.Keeping.{IsSteady, LeavesCounts}
use Rattle.run_keeps.proofs.Stepping.{as_it_is, run_keeps, finish_keeps}

module _ (r : Reached) where
  abbrev s : State
  s = r.state

  abbrev To : Reached → Type 0
  To q = IsSteady s q.state

  same : IsSteady s s
  same = as_it_is s

  spawned_by : (b : BodyId) (o : ℕ) (p q : Bool) (cost : ℕ)
      → To (spawned (cond p (then_do (cond q (Ok (record (with_activity s) { cost = cost })) (Err errors.StoreFull)) (λ (u : State). Ok (silent (entered (begun s b.0 (values.Object 0) o None []) [] u)))) (Err errors.StackOverflow)) r)
  spawned_by b o false q cost = same
  spawned_by b o true false cost = same
  spawned_by b o true true cost = record { size = refl; edits = refl; advisors = refl }

  met_keeps : (m : Met) → To (spawn_met m r)
  met_keeps (Missing x) = same
  met_keeps (Holds o (Constant v)) = same
  met_keeps (Holds o (Assignable v)) = same
  met_keeps (Holds o Assignment) = same
  met_keeps (Holds o (Parent p)) = same
  met_keeps (Holds o (Method b)) = spawned_by b o (nat_lt 0 4096) (nat_le (s.cost + entry_cost (body_of s b.0)) 4194304) (s.cost + entry_cost (body_of s b.0))

  spawn_keeps : (name : List ℕ) → To (spawn name r)
  spawn_keeps name = either To (nat_lt (length s.activities) 4) (spawn_met (meets s (values.Object 0) (number_of s.names name)) r) (refused (codes "too many activities") r)
      (met_keeps (meets s (values.Object 0) (number_of s.names name))) same

  switch_keeps : (k : ℕ) → To (switch k r)
  switch_keeps zero = same
  switch_keeps (suc k) = either To (nat_lt k (length s.activities)) _ _ (record { size = refl; edits = refl; advisors = refl }) same

  over_keeps : (does : List Activation → Reached → Reached) → ((all : List Activation) → To (does all r)) → (x : Option Activity) → To (over x does r)
  over_keeps does h None = same
  over_keeps does h (Some (Running all)) = h all
  over_keeps does h (Some (Answered v)) = same
  over_keeps does h (Some (Failed e p)) = same

  pub command_keeps : (c : Command) (stop : ℕ) → LeavesCounts c → To (command c stop r)
  unfolding command
  command_keeps (Spawn name) stop e = spawn_keeps name
  command_keeps (Switch k) stop e = switch_keeps k
  command_keeps (Run n) stop e = over_keeps (λ all q. with_run_line (run n q)) (λ all. run_keeps n r) (slice_get s.activities s.current)
  command_keeps (Continue n) stop e = over_keeps (λ all q. continue_to n q)
      (λ all. either To (nat_le s.steps n) (with_run_line (run (n - s.steps) r)) (refused (codes "past") r) (run_keeps (n - s.steps) r) same) (slice_get s.activities s.current)
  command_keeps Step stop e = over_keeps (λ all q. with_run_line (run 1 q)) (λ all. run_keeps 1 r) (slice_get s.activities s.current)
  command_keeps (Interrupt n) stop e = over_keeps (λ all q. with_run_line (run (stop - q.state.steps) q)) (λ all. run_keeps (stop - s.steps) r) (slice_get s.activities s.current)
  command_keeps (Finish n) stop e = over_keeps (λ all q. with_run_line (finish n all q)) (λ all. finish_keeps n all r) (slice_get s.activities s.current)
  command_keeps Stack stop e = over_keeps shows (λ all. same) (slice_get s.activities s.current)
  command_keeps (Edit path text) stop e = absurd e
  command_keeps Units stop e = same
  command_keeps Machine stop e = same
  command_keeps (Advisor k) stop e = absurd e

  -- Advisors.

  abbrev Only : Reached → Type 0
  Only q = (q.state.size ≡ s.size) × (q.state.edits ≡ s.edits) × (q.state.advisors ≤ s.advisors)

  fewer : (n d : ℕ) → n - d ≤ n
  fewer n d = omega arith

  pub advisor_only : (k : ℕ) → Only (advisor k r)
  advisor_only k = either Only (nat_le k s.advisors) _ _ (refl, refl, fewer s.advisors (cond (k == 0) 0 1)) (refl, refl, omega arith)

  abbrev Alone : Reached → Type 0
  Alone q = q.state ≡ record s { advisors = q.state.advisors }

  pub advisor_alone : (k : ℕ) → Alone (advisor k r)
  advisor_alone k = either Alone (nat_le k s.advisors) _ _ refl refl

  -- Edits.

  abbrev Left : Reached → Type 0
  Left q = q.state.advisors ≡ s.advisors

  edit_or : (t : SlotText) (o : ℕ) (bodies : List Body) (b : Bool) → Left (edit_done (cond b (Ok (with_method t o bodies s)) (Err TooManyNodes)) r)
  edit_or t o bodies true = refl
  edit_or t o bodies false = refl

  slot_leaves : (t : SlotText) (v : Value) (c : Option Content) (bodies : List Body) → Left (edit_done (in_slot s t v c bodies) r)
  slot_leaves t (values.Int i) (Some c) bodies = refl
  slot_leaves t (values.Int i) None bodies = refl
  slot_leaves t (values.Block b k) (Some c) bodies = refl
  slot_leaves t (values.Block b k) None bodies = refl
  slot_leaves t (values.Object o) (Some (Constant v)) bodies = refl
  slot_leaves t (values.Object o) (Some (Assignable v)) bodies = refl
  slot_leaves t (values.Object o) (Some Assignment) bodies = refl
  slot_leaves t (values.Object o) (Some (Parent p)) bodies = refl
  slot_leaves t (values.Object o) (Some (Method b)) bodies = edit_or t o bodies (nat_le (s.size + t.size) 65536)
  slot_leaves t (values.Object o) None bodies = refl

  path_leaves : (t : SlotText) (v : Option Value) (bodies : Option (List Body)) → Left (edit_done (at_path s t v bodies) r)
  path_leaves t None bodies = refl
  path_leaves t (Some v) None = refl
  path_leaves t (Some v) (Some bodies) = slot_leaves t v (own_content s v t.name) bodies

  pub edit_leaves : (path : List (List ℕ)) (text : EditText) → Left (edit path text r)
  unfolding edited
  edit_leaves path (Read t) = path_leaves t (follow s (map (number_of s.names) path)) (bodies_in s t)
  edit_leaves path (Unread kind at_line column) = refl
