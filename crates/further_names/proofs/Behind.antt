-- Names behind those of a session are behind those of its world.
use Rattle.std.proofs.Common.{◌≡◌, ℕ, ap, sym, subst, ◌∙◌, List, ◌++◌, append_assoc}
use Rattle.source_model.specs.Canon.{Each}
use Rattle.source_model.specs.Formed.{ThingFits}
use Rattle.world_build.specs.Worlds.{World}

pub fit_behind : (w : World) (names more own : List (List ℕ)) → names ≡ w.names ++ own → ((ns : List (List ℕ)) → Each (ThingFits (w.names ++ ns) w.bodies) w.things) → Each (ThingFits (names ++ more) w.bodies) w.things
fit_behind w names more own is fits =
    subst (λ (ns : List (List ℕ)). Each (ThingFits ns w.bodies) w.things) (sym (ap (λ (ns : List (List ℕ)). ns ++ more) is ∙ append_assoc w.names own more)) (fits (own ++ more))
