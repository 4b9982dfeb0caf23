-- What the code's functions give on the way. Used by contracts of private functions alone.
use Rattle.std.specs.Prelude.{ℕ, ◌≤◌, Bool, Result, Ok, List, [], length}
use Rattle.self_grammar.specs.declared.pieces.Item.{Item}
use Rattle.self_grammar.specs.declared.pieces.Item.TheVariants as items
use Rattle.world_build.specs.declared.refusals.BuildRefusal.{BuildRefusal}
use Rattle.world_build.specs.declared.loading.Loading.{Loading}
use Rattle.world_build.specs.Loading.{opened}
use Rattle.world_build.specs.Nodes.{take_item}

-- names, objects, bodies and size are within a number
pub record IsWithin (n : ℕ) (s : Loading) : Type 0 where
  pub names : length s.names ≤ n
  pub things : length s.things ≤ n
  pub bodies : length s.bodies ≤ n
  pub size : s.size ≤ n

-- room for one item more
abbrev pub HasRoom : Loading → Type 0
HasRoom s = IsWithin 450000000 s

-- an item, where it is known whether what it opens is an object
abbrev pub take_one : List ℕ → Bool → Item → Loading → Result Loading BuildRefusal
take_one bytes object (items.Opened p) s = Ok (opened object s)
take_one bytes object i s = take_item bytes i [] s
