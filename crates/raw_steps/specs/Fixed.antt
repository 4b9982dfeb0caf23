-- What no step changes.
use Rattle.std.specs.Prelude.{◌≡◌}
use Rattle.source_model.specs.State.{State}

-- names, bodies, the objects that the language knows, and where the fixed strings are
pub record IsFixed (s t : State) : Type 0 where
  pub names : t.names ≡ s.names
  pub core : t.core ≡ s.core
  pub fixed : t.fixed ≡ s.fixed
  pub bodies : t.bodies ≡ s.bodies
