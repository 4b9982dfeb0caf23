-- The world of an accepted text.
use Rattle.std.specs.Prelude.{◌≡◌, ℕ, ◌≤◌, Ok, List}
use Rattle.self_tokens.specs.Tokens.{tokens}
use Rattle.self_grammar.specs.Counts.{Limits}
use Rattle.self_grammar.specs.Grammar.{World as Text}
use Rattle.self_grammar.specs.Refusal.{IsText}
use Rattle.self_grammar.specs.Spelling.{world, items_of}
use Rattle.self_signs.specs.Signs.{signs, names_after}
use Rattle.world_build.specs.Worlds.{World, built}

-- These bytes say a text of the grammar within some limits, where some names were given before, and its items build the world.
pub record IsAccepted (bytes : List ℕ) (w : World) : Type 0 where
  pub limits : Limits
  pub known : List (List ℕ)
  pub text : Text
  pub size : limits.size ≤ 65536
  pub is : IsText (world limits) (signs known bytes) text
  pub made : built (names_after known bytes (tokens bytes)) bytes (items_of (world limits text)) ≡ Ok w
