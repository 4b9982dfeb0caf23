-- A state of which the test is passed is well formed, whatever the number of advisors.
use Rattle.std.specs.Prelude.{◌≡◌, ℕ, List, refl}
use Rattle.std.proofs.Common.{◌∙◌}
use Rattle.source_model.specs.Testing.{can_begin}
use Rattle.source_model.proofs.Beginning.{begins}
use Rattle.source_model.proofs.Testing.{begins_by_test}
use Rattle.world_build.specs.Worlds.{World}
use Rattle.world_state.specs.Begun.{begun}
use Rattle.world_test.specs.Tells.{Tells}

unadvised : (w : World) (names : List (List ℕ)) (advisors : ℕ) → can_begin (begun w names advisors) ≡ can_begin (begun w names 0)
unfolding can_begin
unadvised w names advisors = refl

pub tells : Tells
tells w names advisors e = begins (begun w names advisors) (begins_by_test (begun w names advisors) (unadvised w names advisors ∙ e))
