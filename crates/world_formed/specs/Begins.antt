-- A session over the world of an accepted text begins well.
use Rattle.std.specs.Prelude.{ℕ, List, ◌++◌, length, codes}
use Rattle.source_model.specs.Names.{number_of}
use Rattle.source_model.specs.Canon.{Each}
use Rattle.source_model.specs.Soundness.{HasBody, IsFit}
use Rattle.source_model.specs.Formed.{Takes, IsSaid, ThingFits, ThingHolds, IsPlain, CanBegin, IsWellFormed}
use Rattle.world_build.specs.Worlds.{World}
use Rattle.world_state.specs.Begun.{begun}
use Rattle.world_facts.specs.Accepted.{IsAccepted}
use Rattle.world_code.specs.Limited.{IsLimited}

-- Each body of the world finds the values that it takes, and the locals and blocks that it names.
abbrev pub BodiesFit : Type 0
BodiesFit = (bytes : List ℕ) (w : World) (a : IsAccepted bytes w) → IsLimited a.limits → (n : ℕ) → HasBody w.bodies n → IsFit w.bodies n

-- What each body says is there, and each message has as many arguments as its name says; behind the names of the world there may be further ones.
abbrev pub BodiesSay : Type 0
BodiesSay = (bytes : List ℕ) (w : World) (a : IsAccepted bytes w) → IsLimited a.limits → (more : List (List ℕ)) → Each (IsSaid (w.names ++ more) (length w.things)) w.bodies

-- Methods take as many arguments as the names of their slots say, assignment slots stand behind the slots that they assign, and no object has two
-- slots of one name.
abbrev pub ThingsFit : Type 0
ThingsFit = (bytes : List ℕ) (w : World) (a : IsAccepted bytes w) → IsLimited a.limits → (more : List (List ℕ)) → Each (ThingFits (w.names ++ more) w.bodies) w.things

-- Each value is there, and none is a block.
abbrev pub ValuesStand : Type 0
ValuesStand = (bytes : List ℕ) (w : World) → IsAccepted bytes w → Each (ThingHolds (IsPlain (length w.things))) w.things

-- A session can begin over the world, whose names may have further ones behind them, where `value:With:` has a number.
abbrev pub WorldsCanBegin : Type 0
WorldsCanBegin =
    (bytes : List ℕ) (w : World) (a : IsAccepted bytes w) → IsLimited a.limits → (more : List (List ℕ)) (advisors : ℕ) → Takes (w.names ++ more) (number_of (w.names ++ more) (codes "value:With:")) 2
    → CanBegin (begun w (w.names ++ more) advisors)

-- So its state is well formed.
abbrev pub WorldsBeginFormed : Type 0
WorldsBeginFormed =
    (bytes : List ℕ) (w : World) (a : IsAccepted bytes w) → IsLimited a.limits → (more : List (List ℕ)) (advisors : ℕ) → Takes (w.names ++ more) (number_of (w.names ++ more) (codes "value:With:")) 2
    → IsWellFormed (begun w (w.names ++ more) advisors)
