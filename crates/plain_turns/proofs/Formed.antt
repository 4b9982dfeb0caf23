-- Steps behind the gate keep a state well formed.
use Rattle.std.proofs.Common.{◌≡◌, ℕ, zero, suc, ◌<◌, subst, arith}
use Rattle.std.specs.Prelude.{List}
use Rattle.self_terms.specs.declared.errors.ErrorName.{ErrorName}
use Rattle.self_terms.specs.declared.nodes.Place.{Place}
use Rattle.self_terms.specs.declared.values.Value.{Value}
use Rattle.self_terms.specs.declared.values.Value.TheVariants as values
use Rattle.source_model.specs.State.{Failed, State, Reached, silent, with_current}
use Rattle.source_model.specs.Canon.{ActivityHas}
use Rattle.source_model.specs.Soundness.{IsActivity}
use Rattle.source_model.specs.Step.{onward, run}
use Rattle.source_model.specs.Formed.{ThingHolds, ActivityHolds, IsThere, AreInOrder, IsWellFormed}
use Rattle.source_model.proofs.Keeping.{set_each}
use Rattle.source_model.proofs.Having.{each}
use Rattle.source_model.proofs.Forming.{thing_holds, activity_holds, steps_form}
use Rattle.plain_stretches.specs.Printing.{printed}
use Rattle.plain_stretches.proofs.Settled.{set_long}

-- an activity that has failed is one
pub failed_formed : (s : State) (e : ErrorName) (p : Place) → IsWellFormed s → IsWellFormed (with_current (Failed e p) s)
failed_formed s e p formed =
    let home = formed.0 in
    let f = formed.1 in
    let t = with_current (Failed e p) s in
    let V : Value → Type 0 = IsThere home s in
    let W : Value → Type 0 = IsThere home t in
    let there : (v : Value) → V v → W v = still home s t in (
      home,
      record {
        own = record {
          few = omega (arith, f.own.few, set_long s.activities s.current (Failed e p));
          below = record { things = f.own.below.things; activities = set_each (ActivityHas (λ k. k < s.unused)) s.activities s.current (Failed e p) f.own.below.activities tt };
        };
        order = set_each AreInOrder s.activities s.current (Failed e p) f.order tt;
        well = record { bodies = f.well.bodies; activities = set_each (IsActivity s.bodies home) s.activities s.current (Failed e p) f.well.activities tt };
        values = record {
          things = each (ThingHolds V) (ThingHolds W) (thing_holds V W there) s.things f.values.things;
          activities = set_each (ActivityHolds W) s.activities s.current (Failed e p) (each (ActivityHolds V) (ActivityHolds W) (activity_holds V W there) s.activities f.values.activities) tt;
        };
        world = f.world;
      },
    )
  where
    still : (home : ℕ → ℕ) (s t : State) → (v : Value) → IsThere home s v → IsThere home (with_current (Failed e p) s) v
    still home s t (values.Int i) h = tt
    still home s t (values.Object o) h = h
    still home s t (values.Block b k) h = h

runs_form : (n : ℕ) (r : Reached) → IsWellFormed r.state → IsWellFormed (run n r).state
unfolding run
runs_form zero r formed = formed
runs_form (suc n) r formed = runs_form n (onward r) (steps_form r.state formed)

pub run_forms : (n : ℕ) (s t : State) (out : List ℕ) → run n (silent s) ≡ printed t out → IsWellFormed s → IsWellFormed t
run_forms n s t out e formed = subst (λ (r : Reached). IsWellFormed r.state) e (runs_form n (silent s) formed)
