-- What a test that was passed tells.
use Rattle.std.specs.Prelude.{◌≡◌, ℕ, true, List}
use Rattle.source_model.specs.Formed.{IsWellFormed}
use Rattle.source_model.specs.Testing.{can_begin}
use Rattle.world_build.specs.Worlds.{World}
use Rattle.world_state.specs.Begun.{begun}

-- a session over a world that passes begins well formed
abbrev pub Tells : Type 0
Tells = (w : World) (names : List (List ℕ)) (advisors : ℕ) → can_begin (begun w names 0) ≡ true → IsWellFormed (begun w names advisors)
