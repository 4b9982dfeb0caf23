-- What a spawn leaves as it is.
use Rattle.std.proofs.Common.{◌≡◌, ℕ, ◌+◌, refl}
use Rattle.std.specs.Prelude.{nat_lt, nat_le, Bool, true, false, cond, List, [], ◌∷◌, length, Option, None, Ok, Err, codes}
use Rattle.self_terms.specs.declared.errors.ErrorName.TheVariants as errors
use Rattle.self_terms.specs.declared.values.Value.TheVariants as values
use Rattle.source_model.specs.declared.objects.Content.TheVariants.{Constant, Assignable, Assignment, Parent, Method}
use Rattle.source_model.specs.Messages.{Met, Missing, Holds, body_of, meets}
use Rattle.source_model.specs.Names.{number_of}
use Rattle.source_model.specs.Script.{refused, spawned, with_activity, spawn_met, spawn}
use Rattle.source_model.specs.Sends.{Outcome, then_do, begun, entry_cost, entered, enters}
use Rattle.source_model.specs.State.{Activation, State, Reached, silent}
use Rattle.source_model.specs.Texts.{error_text}
use Rattle.source_model.proofs.Keeping.{either}
use Rattle.raw_steps.specs.Fixed.{IsFixed}

-- the same names, bodies, core objects and fixed strings, and no step more
abbrev pub Keeps : State → State → Type 0
Keeps s t = IsFixed s t × (t.steps ≡ s.steps)

module _ (r : Reached) where
  abbrev Tried : Outcome → Type 0
  Tried (Ok t) = Keeps r.state t.state
  Tried (Err e) = Unit {0}

  entered_by : (a : Activation) (c : ℕ) (p q : Bool)
      → Tried (cond p (then_do (cond q (Ok (record (with_activity r.state) { cost = c })) (Err errors.StoreFull)) (λ (t : State). Ok (silent (entered a [] t)))) (Err errors.StackOverflow))
  entered_by a c true true = (record { names = refl; core = refl; fixed = refl; bodies = refl }, refl)
  entered_by a c true false = tt
  entered_by a c false q = tt

  enters_tried : (a : Activation) → Tried (enters a [] (with_activity r.state))
  enters_tried a =
      let c = (with_activity r.state).cost + entry_cost (body_of (with_activity r.state) a.body) in
      entered_by a c (nat_lt 0 4096) (nat_le c 4194304)

  spawned_keeps : (o : Outcome) → Tried o → Keeps r.state (spawned o r).state
  spawned_keeps (Ok t) k = k
  spawned_keeps (Err e) k = (record { names = refl; core = refl; fixed = refl; bodies = refl }, refl)

  met_keeps : (met : Met) → Keeps r.state (spawn_met met r).state
  met_keeps (Missing e) = (record { names = refl; core = refl; fixed = refl; bodies = refl }, refl)
  met_keeps (Holds o (Method b)) =
      let a = begun r.state b.0 (values.Object 0) o None [] in
      spawned_keeps (enters a [] (with_activity r.state)) (enters_tried a)
  met_keeps (Holds o (Constant v)) = (record { names = refl; core = refl; fixed = refl; bodies = refl }, refl)
  met_keeps (Holds o (Assignable v)) = (record { names = refl; core = refl; fixed = refl; bodies = refl }, refl)
  met_keeps (Holds o Assignment) = (record { names = refl; core = refl; fixed = refl; bodies = refl }, refl)
  met_keeps (Holds o (Parent p)) = (record { names = refl; core = refl; fixed = refl; bodies = refl }, refl)

  abbrev To : Reached → Type 0
  To t = Keeps r.state t.state

  pub spawn_keeps : (name : List ℕ) → Keeps r.state (spawn name r).state
  spawn_keeps name =
      let met = meets r.state (values.Object 0) (number_of r.state.names name) in
      either To (nat_lt (length r.state.activities) 4) (spawn_met met r) (refused (codes "too many activities") r) (met_keeps met) (record { names = refl; core = refl; fixed = refl; bodies = refl }, refl)
