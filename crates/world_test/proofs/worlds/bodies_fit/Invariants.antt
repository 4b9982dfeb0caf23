use Rattle.std.proofs.Common.{◌≡◌, ◌+◌, true}
use Rattle.source_model.specs.Testing.{below_pass, fit_test}
use Rattle.world_test.proofs.worlds.bodies_fit.Given as goal

abbrev pub invariant-loop-k : goal.invariant-loop-k
invariant-loop-k l = below_pass l.k (λ k. fit_test l.world.bodies (k + 1)) ≡ true
