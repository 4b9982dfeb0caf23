use Rattle.std.proofs.Common.{◌≡◌, drop}
use Rattle.self_terms.specs.declared.bodies.Local.{Local}
use Rattle.source_model.specs.Testing.{each_passes, given_test}
use Rattle.world_test.proofs.said.locals_given.Given as goal

-- what is left passes where all do
abbrev pub invariant-loop-local : goal.invariant-loop-local
invariant-loop-local l = each_passes (λ (x : Local). given_test l.things x.initial) (drop l.local-index l.locals) ≡ each_passes (λ (x : Local). given_test l.things x.initial) l.locals
