use Rattle.std.proofs.Common.{◌≡◌, ◌+◌, ◌-◌, ◌∙◌, ℕ, ap, sym, subst, arith, length}
use Rattle.std.specs.Prelude.{List, Some, slice_get}
use Rattle.source_model.specs.declared.objects.Thing.{Thing}
use Rattle.source_model.specs.Testing.{said_test}
use Rattle.world_test.proofs.Passing.{each_fails, each_goes}
use Rattle.world_test.proofs.worlds.bodies_said.Goals as goal

pub returns-then-not-said_test : goal.returns-then-not-said_test
returns-then-not-said_test c =
    let at : slice_get c.args.world.now.bodies c.loop-k.k ≡ Some c.body.result.now = (let e : c.loop-k.k + 1 - 1 ≡ c.loop-k.k = omega arith in subst (λ (k : ℕ). slice_get c.args.world.now.bodies k ≡ Some c.body.result.now) e c.body.ensures) in
    sym (each_fails (said_test c.args.names.now (length c.args.world.now.things)) c.args.world.now.bodies c.loop-k.k c.body.result.now at (sym
    (c.if-not-said_test.ensures
    ∙ ap (λ (ts : List Thing). said_test c.args.names.now (length ts) c.body.result.now) c.things-things.ensures))) ∙ c.loop-k.invariant

pub loop-k-preserved : goal.loop-k-preserved
loop-k-preserved c =
    let at : slice_get c.args.world.now.bodies c.loop-k.k ≡ Some c.body.result.now = (let e : c.loop-k.k + 1 - 1 ≡ c.loop-k.k = omega arith in subst (λ (k : ℕ). slice_get c.args.world.now.bodies k ≡ Some c.body.result.now) e c.body.ensures) in
    each_goes (said_test c.args.names.now (length c.args.world.now.things)) c.args.world.now.bodies c.loop-k.k c.body.result.now at (sym
    (c.if-not-said_test.ensures
    ∙ ap (λ (ts : List Thing). said_test c.args.names.now (length ts) c.body.result.now) c.things-things.ensures)) ∙ c.loop-k.invariant
