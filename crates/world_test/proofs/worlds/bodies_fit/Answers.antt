use Rattle.std.proofs.Common.{◌+◌, sym, arith, length}
use Rattle.source_model.specs.Testing.{fit_test}
use Rattle.world_test.proofs.Passing.{below_fails}
use Rattle.world_test.proofs.worlds.bodies_fit.Goals as goal

pub returns-then-not-fit_test : goal.returns-then-not-fit_test
returns-then-not-fit_test c =
    sym (below_fails (λ k. fit_test c.args.world.now.bodies (k + 1)) (length c.args.world.now.bodies) c.loop-k.k (omega arith) (sym c.if-not-fit_test.ensures))
