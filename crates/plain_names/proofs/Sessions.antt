-- The names of a session have the evaluators of all its bodies.
use Rattle.std.proofs.Common.{◌≡◌, ℕ, zero, suc, ◌-◌, ◌≤◌, refl, arith, List, [], ◌++◌, length}
use Rattle.std.specs.Prelude.{◌≢◌, slice_get, Option, Some, None, unwrap_or}
use Rattle.self_terms.specs.declared.bodies.Body.{Body}
use Rattle.source_model.specs.Names.{number_of, evaluator}
use Rattle.source_model.specs.Canon.{Each}
use Rattle.source_model.specs.Soundness.{body_in}
use Rattle.source_model.specs.Formed.{ThingFits}
use Rattle.world_build.specs.Worlds.{World}
use Rattle.world_state.specs.Begun.{begun}
use Rattle.world_blocks.specs.Sessions.{session_names, HasFewArguments}
use Rattle.world_blocks.specs.Knowing.{NamesWorld}
use Rattle.plain_names.specs.Growing.{MayName}

has_evaluator : (w : World) → NamesWorld w → (k : ℕ) → k ≤ 5 → number_of (session_names w) (evaluator k) ≢ 0
has_evaluator w n zero le = n.own 1 (evaluator 0) refl
has_evaluator w n (suc zero) le = n.own 2 (evaluator 1) refl
has_evaluator w n (suc (suc zero)) le = n.own 3 (evaluator 2) refl
has_evaluator w n (suc (suc (suc zero))) le = n.own 4 (evaluator 3) refl
has_evaluator w n (suc (suc (suc (suc zero)))) le = n.own 5 (evaluator 4) refl
has_evaluator w n (suc (suc (suc (suc (suc zero))))) le = n.own 6 (evaluator 5) refl
has_evaluator w n (suc (suc (suc (suc (suc (suc k)))))) le = absurd (omega (arith, le))

few_by : (w : World) → HasFewArguments w → (k : ℕ) (m : Option Body) → slice_get w.bodies k ≡ m → length (unwrap_or m (record { name = None; outer = None; arguments = []; locals = []; nodes = []; places = [] })).arguments ≤ 5
few_by w few k None is = omega arith
few_by w few k (Some x) is = few k x is

pub may_name : (w : World) (more : List (List ℕ)) (advisors : ℕ) → NamesWorld w → HasFewArguments w → Each (ThingFits (session_names w ++ more) w.bodies) w.things → MayName (begun w (session_names w) advisors) more
may_name w more advisors n few fit = record {
  slots = fit;
  evaluators = λ b none. absurd (has_evaluator w n (length (body_in w.bodies b).arguments) (few_by w few (b - 1) (slice_get w.bodies (b - 1)) refl) none);
}
