-- The numbers of the names that a world must have. Used by contracts of private functions alone.
use Rattle.std.specs.Prelude.{◌≡◌, ℕ, ◌<◌, List}
use Rattle.world_build.specs.declared.cores.CoreName.TheVariants.{Nil, True, False, IntegerTraits, StringTraits, VectorTraits, BlockTraits}
use Rattle.source_model.specs.Names.{number_of}
use Rattle.world_build.specs.Names.{lobby_text, core_text}

-- a text that has a name, and its number
pub record IsNumber (names : List (List ℕ)) (text : List ℕ) (n : ℕ) : Type 0 where
  pub number : n ≡ number_of names text
  pub given : 0 < n

-- each of these is the number of its name
pub record Knows (names : List (List ℕ)) (a b c d e f g h : ℕ) : Type 0 where
  pub lobby : IsNumber names lobby_text a
  pub nil : IsNumber names (core_text Nil) b
  pub yes : IsNumber names (core_text True) c
  pub no : IsNumber names (core_text False) d
  pub integers : IsNumber names (core_text IntegerTraits) e
  pub strings : IsNumber names (core_text StringTraits) f
  pub vectors : IsNumber names (core_text VectorTraits) g
  pub blocks : IsNumber names (core_text BlockTraits) h
