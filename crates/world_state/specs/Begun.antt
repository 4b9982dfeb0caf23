-- The state with which a session over a world begins.
use Rattle.std.specs.Prelude.{◌≡◌, ℕ, Ok, List, [], map}
use Rattle.self_grammar.specs.declared.pieces.Item.{Item}
use Rattle.source_model.specs.Objects.{Object}
use Rattle.source_model.specs.State.{State}
use Rattle.source_model.specs.Messages.{slots_of}
use Rattle.world_build.specs.Worlds.{World, built}

-- nothing was done yet; the names are those of the world, and perhaps further ones behind them
abbrev pub begun : World → List (List ℕ) → ℕ → State
begun w names advisors = record {
  names = names;
  core = w.core;
  fixed = w.objects;
  bodies = w.bodies;
  things = w.things;
  activities = [];
  current = 0;
  steps = 0;
  cost = 0;
  unused = 1;
  size = w.size;
  edits = 0;
  advisors = advisors;
}

-- the slots of a world's objects, by which lookup goes
abbrev pub objects_of : World → List Object
objects_of w = map (slots_of w.core) w.things

-- The items of a text of these bytes build it, with these names.
pub record IsBuilt (w : World) : Type 0 where
  pub names : List (List ℕ)
  pub bytes : List ℕ
  pub items : List Item
  pub made : built names bytes items ≡ Ok w
