use Rattle.std.proofs.Common.{◌≡◌, ◌≤◌, ◌∙◌, suc, ◌-◌, ap, subst, length, arith}
use Rattle.std.specs.Prelude.{None, Option, [], slice_get, unwrap_or}
use Rattle.self_terms.specs.declared.bodies.Body.{Body}
use Rattle.world_code.proofs.Runnable.{accepted_runnable}
use Rattle.world_code.proofs.laws.accepted_bodies_have_few_arguments.Goals as goal

pub returns : goal.returns
returns c = λ bytes w a limited k x there.
    let place : suc k - 1 ≡ k = omega arith in
    let body = ap (λ (q : Option Body). unwrap_or q (record { name = None; outer = None; arguments = []; locals = []; nodes = []; places = [] })) (ap (slice_get w.bodies) place ∙ there) in
    subst (λ (q : Body). length q.arguments ≤ 5) body (accepted_runnable bytes w a limited (suc k)).translates.arguments
