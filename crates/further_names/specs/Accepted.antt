-- The names of a session over an accepted world, and names behind them.
use Rattle.std.specs.Prelude.{ℕ, List, ◌++◌}
use Rattle.source_model.specs.Canon.{Each}
use Rattle.source_model.specs.Formed.{ThingFits}
use Rattle.world_build.specs.Worlds.{World}
use Rattle.world_blocks.specs.Sessions.{session_names}
use Rattle.world_facts.specs.Accepted.{IsAccepted}
use Rattle.world_code.specs.Limited.{IsLimited}

-- The slots of its things fit with them, whatever they are.
abbrev pub AcceptedSlotsGoOn : Type 0
AcceptedSlotsGoOn = (bytes : List ℕ) (w : World) (a : IsAccepted bytes w) → IsLimited a.limits → (more : List (List ℕ)) → Each (ThingFits (session_names w ++ more) w.bodies) w.things
