-- The names of a session.
use Rattle.std.specs.Prelude.{◌≡◌, ℕ, true, List}
use Rattle.std.proofs.Common.{sym, ap, ◌∙◌}
use Rattle.world_blocks.specs.Sessions.{session_texts, with_texts, session_names}
use Rattle.world_build.specs.Worlds.{World}
use Rattle.world_test.specs.Further.{starts_fixed}

pub names_are : (w : World) (given all : List (List ℕ)) → given ≡ w.names → starts_fixed w.names ≡ true → (starts_fixed given ≡ true → all ≡ with_texts given session_texts) → session_names w ≡ all
unfolding session_names
names_are w given all e fixed h = sym (h (ap starts_fixed e ∙ fixed) ∙ ap (λ (ns : List (List ℕ)). with_texts ns session_texts) e)
