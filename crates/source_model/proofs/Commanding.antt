-- Commands keep a state well formed.
use Rattle.std.proofs.Common.{◌≡◌, ℕ, zero, suc, ◌+◌, ◌-◌, ◌<◌, ap, sym, subst, refl, ◌∙◌, arith, Bool, true, false, List, [], ◌∷◌, inl, inr, length}
use Rattle.std.specs.Prelude.{◌==◌, nat_lt, nat_le, slice_get, Option, Some, None, cond, Ok, Err, codes}
use Rattle.self_terms.specs.declared.values.Value.{Value}
use Rattle.self_terms.specs.declared.values.Value.TheVariants as values
use Rattle.self_terms.specs.declared.values.BodyId.{BodyId}
use Rattle.self_terms.specs.declared.values.Datum.{Datum}
use Rattle.self_terms.specs.declared.values.Datum.TheVariants as datum
use Rattle.self_terms.specs.declared.bodies.Local.{Local}
use Rattle.self_terms.specs.declared.errors.ErrorName.TheVariants as errors
use Rattle.source_model.specs.Names.{number_of}
use Rattle.source_model.specs.Objects.{Constant, Assignable, Assignment, Parent, Method}
use Rattle.source_model.specs.State.{Activation, Activity, Running, Answered, Failed, State, Reached, silent}
use Rattle.source_model.specs.Messages.{Met, Missing, Holds, body_of, value_of, meets}
use Rattle.source_model.specs.Sends.{then_do, begun, entered, entry_cost, enters}
use Rattle.source_model.specs.Step.{step, onward, run}
use Rattle.source_model.specs.Script.{Command, Spawn, Switch, Run, Continue, Step, Interrupt, Finish, Stack, Edit, Units, Machine, Advisor, EditText, refused, spawned, with_activity, spawn_met, spawn, switch, over, with_run_line, lacks, finish, continue_to, shows, edit, advisor, command}
use Rattle.source_model.specs.Canon.{Each}
use Rattle.source_model.specs.Soundness.{body_in, IsWell, Accepts}
use Rattle.source_model.specs.Formed.{arity, Takes, IsGiven, ThingHolds, ActivationHolds, ActivityHolds, StateHolds, IsThere, AreInOrder, IsWorld, IsFormed, IsWellFormed}
use Rattle.source_model.specs.Told.{CommandFits}
use Rattle.source_model.proofs.Having.{each}
use Rattle.source_model.proofs.Keeping.{either}
use Rattle.source_model.proofs.Runs.{until_first}
use Rattle.source_model.proofs.Spawning.{by_tests, last_each}
use Rattle.source_model.proofs.Holding.{Ground, begun_holds}
use Rattle.source_model.proofs.Naming.{named_back}
use Rattle.source_model.proofs.Accepting.{meets_fit, said_of, MetFits}
use Rattle.source_model.proofs.Forming.{thing_holds, activity_holds, before, steps_form, runs_form}

-- all but the numbers
pub record Rest (home : ℕ → ℕ) (s : State) : Type 0 where
  pub order : Each AreInOrder s.activities
  pub well : IsWell home s
  pub values : StateHolds (IsThere home s) s
  pub world : IsWorld s

abbrev pub Done : State → State → Type 0
Done s t = (t.names ≡ s.names) × ((home : ℕ → ℕ) × Rest home t)

pub rest_of : (home : ℕ → ℕ) (s : State) → IsFormed home s → Rest home s
rest_of home s e = record { order = e.order; well = e.well; values = e.values; world = e.world }

pub as_it_was : (s : State) → IsWellFormed s → Done s s
as_it_was s e = (refl, (e.0, rest_of e.0 s e.1))

-- Runs.

step_names : (s : State) → IsWellFormed s → (step s).state.names ≡ s.names
step_names s e = (before e.0 s e.1).names

run_names : (n : ℕ) (r : Reached) → IsWellFormed r.state → (run n r).state.names ≡ r.state.names
unfolding run
run_names zero r e = refl
run_names (suc n) r e = run_names n (onward r) (steps_form r.state e) ∙ step_names r.state e

run_done : (n : ℕ) (r : Reached) → IsWellFormed r.state → Done r.state (run n r).state
run_done n r e = let f = runs_form n r e in (run_names n r e, (f.0, rest_of f.0 (run n r).state f.1))

-- A new activity.

module _ (home : ℕ → ℕ) (s : State) (formed : IsFormed home s) (b : BodyId) (holder : ℕ) (fits : Accepts s.bodies b.0 0 None) (there : holder < length s.things) where
  abbrev first : Activation
  first = begun s b.0 (values.Object 0) holder None []

  abbrev after : ℕ → State
  after cost = entered first [] (record (with_activity s) { cost = cost })

  module _ (cost : ℕ) where
    abbrev t : State
    t = after cost

    well_after : (later : ℕ → ℕ) × ((k : ℕ) → k < s.unused → later k ≡ home k) × IsWell later t
    well_after = by_tests home s b holder formed.well formed.own fits true true cost

    abbrev Still : Value → Type 0
    Still v = IsThere well_after.0 t v

    still : (v : Value) → IsThere home s v → Still v
    still (values.Int i) e = tt
    still (values.Object o) e = e
    still (values.Block c k) e = (e.0, e.1 ∙ ap Some (sym (well_after.1 k e.2)), omega (arith, e.2))

    initial_still : (d : Datum) → IsGiven (length s.things) d → Still (value_of s.core d)
    initial_still (datum.Integer i) e = tt
    initial_still (datum.Object o) e = e
    initial_still datum.Nil e = formed.world.0.nil

    ground : Ground Still (length s.things) (λ o lt. lt) s
    ground = record {
      few = omega arith;
      nil = formed.world.0.nil;
      yes = formed.world.0.yes;
      no = formed.world.0.no;
      integers = formed.world.0.integers;
      strings = formed.world.0.strings;
      vectors = formed.world.0.vectors;
      blocks = formed.world.0.blocks;
      fixed = formed.world.0.fixed;
      initials = λ n. each (λ (x : Local). IsGiven (length s.things) x.initial) (λ (x : Local). Still (value_of s.core x.initial)) (λ x. initial_still x.initial) (body_of s n).locals (said_of home s formed n).initials;
    }

    first_holds : ActivationHolds Still first
    first_holds = begun_holds Still (length s.things) (λ o lt. lt) s b.0 (values.Object 0) holder None [] ground (omega (arith, formed.world.0.nil)) there tt

    begun_done : Done s t
    begun_done = (
      refl,
      (
        well_after.0,
        record {
          order = last_each AreInOrder s.activities (Running []) (Running (first ∷ [])) formed.order (tt, tt);
          well = well_after.2;
          values = record {
            things = each (ThingHolds (IsThere home s)) (ThingHolds Still) (thing_holds (IsThere home s) Still still) s.things formed.values.things;
            activities = last_each (ActivityHolds Still) s.activities (Running []) (Running (first ∷ []))
                (each (ActivityHolds (IsThere home s)) (ActivityHolds Still) (activity_holds (IsThere home s) Still still) s.activities formed.values.activities) (first_holds, tt);
          };
          world = formed.world;
        },
      ),
    )

  module _ (text : List ℕ) where
    spawned_by : (p q : Bool) (cost : ℕ)
        → Done s (spawned (cond p (then_do (cond q (Ok (record (with_activity s) { cost = cost })) (Err errors.StoreFull)) (λ (u : State). Ok (silent (entered first [] u)))) (Err errors.StackOverflow)) (record { state = s; out = text })).state
    spawned_by false q cost = as_it_was s (home, formed)
    spawned_by true false cost = as_it_was s (home, formed)
    spawned_by true true cost = begun_done cost

    pub spawned_done : Done s (spawned (enters first [] (with_activity s)) (record { state = s; out = text })).state
    spawned_done = spawned_by (nat_lt 0 4096) (nat_le (s.cost + entry_cost (body_of s b.0)) 4194304) (s.cost + entry_cost (body_of s b.0))

no_arguments : (names : List (List ℕ)) (name : List ℕ) (args : ℕ) → arity name ≡ 0 → Takes names (number_of names name) args → args ≡ 0
no_arguments names name args none e = sym e.arguments ∙ ap arity (named_back names name e.text e.given) ∙ none

module _ (home : ℕ → ℕ) (r : Reached) (formed : IsFormed home r.state) where
  abbrev s : State
  s = r.state

  abbrev Next : Reached → Type 0
  Next q = Done s q.state

  same : Done s s
  same = as_it_was s (home, formed)

  met_done : (name : List ℕ) → arity name ≡ 0 → (m : Met) → MetFits home s formed (values.Object 0) (number_of s.names name) m → Next (spawn_met m r)
  met_done name none (Missing x) e = same
  met_done name none (Holds o (Constant v)) e = same
  met_done name none (Holds o (Assignable v)) e = same
  met_done name none (Holds o Assignment) e = same
  met_done name none (Holds o (Parent p)) e = same
  met_done name none (Holds o (Method b)) (inl e) =
      spawned_done home s formed b o (record { given = e.1.0; arguments = no_arguments s.names name (length (body_in s.bodies b.0).arguments) none e.1.1; outer = e.1.2 }) e.0 r.out
  met_done name none (Holds o (Method b)) (inr e) = absurd e.1

  spawn_done : (name : List ℕ) → arity name ≡ 0 → Next (spawn name r)
  spawn_done name none = either Next (nat_lt (length s.activities) 4) (spawn_met (meets s (values.Object 0) (number_of s.names name)) r) (refused (codes "too many activities") r)
      (met_done name none (meets s (values.Object 0) (number_of s.names name)) (meets_fit home s formed (values.Object 0) (number_of s.names name))) same

  -- with another activity as the current one, or an advisor less
  switched : (k n : ℕ) → Done s (record s { current = k; advisors = n })
  switched k n = (
    refl,
    (
      home,
      record {
        order = formed.order;
        well = record { bodies = formed.well.bodies; activities = formed.well.activities };
        values = record { things = formed.values.things; activities = formed.values.activities };
        world = formed.world;
      },
    ),
  )

  switch_done : (k : ℕ) → Next (switch k r)
  switch_done zero = same
  switch_done (suc k) = either Next (nat_lt k (length s.activities)) _ _ (switched k s.advisors) same

  advisor_done : (k : ℕ) → Next (advisor k r)
  advisor_done k = either Next (nat_le k s.advisors) _ _ (switched s.current (s.advisors - cond (k == 0) 0 1)) same

  over_done : (does : List Activation → Reached → Reached) → ((all : List Activation) → Next (does all r)) → (x : Option Activity) → Next (over x does r)
  over_done does h None = same
  over_done does h (Some (Running all)) = h all
  over_done does h (Some (Answered v)) = same
  over_done does h (Some (Failed e p)) = same

  runs : (n : ℕ) → Next (run n r)
  runs n = run_done n r (home, formed)

  finish_done : (n : ℕ) (all : List Activation) → Next (finish n all r)
  finish_done n [] = same
  finish_done n (a ∷ older) = let h = until_first (lacks a.number) n r in subst Next (sym h.2) (runs h.0)

  pub command_done : ((path : List (List ℕ)) → (text : EditText) → CommandFits s.names (Edit path text) → Next (edit path text r)) → (c : Command) (stop : ℕ) → CommandFits s.names c → Next (command c stop r)
  unfolding command
  command_done edits (Spawn name) stop fits = spawn_done name fits
  command_done edits (Switch k) stop fits = switch_done k
  command_done edits (Run n) stop fits = over_done (λ all q. with_run_line (run n q)) (λ all. runs n) (slice_get s.activities s.current)
  command_done edits (Continue n) stop fits = over_done (λ all q. continue_to n q)
      (λ all. either Next (nat_le s.steps n) (with_run_line (run (n - s.steps) r)) (refused (codes "past") r) (runs (n - s.steps)) same) (slice_get s.activities s.current)
  command_done edits Step stop fits = over_done (λ all q. with_run_line (run 1 q)) (λ all. runs 1) (slice_get s.activities s.current)
  command_done edits (Interrupt n) stop fits = over_done (λ all q. with_run_line (run (stop - q.state.steps) q)) (λ all. runs (stop - s.steps)) (slice_get s.activities s.current)
  command_done edits (Finish n) stop fits = over_done (λ all q. with_run_line (finish n all q)) (λ all. finish_done n all) (slice_get s.activities s.current)
  command_done edits Stack stop fits = over_done shows (λ all. same) (slice_get s.activities s.current)
  command_done edits (Edit path text) stop fits = edits path text fits
  command_done edits Units stop fits = same
  command_done edits Machine stop fits = same
  command_done edits (Advisor k) stop fits = advisor_done k
