-- What was built of an edit's text, by its parts: it opens bodies alone, and all its objects are strings. Used by contracts of
-- private functions of slot_text alone, which can't name these types.
use Rattle.std.specs.Prelude.{ℕ, Option, None, Some, List, map}
use Rattle.self_terms.specs.declared.bodies.Body.{Body}
use Rattle.world_build.specs.declared.loading.Loading.{Loading}
use Rattle.world_build.specs.declared.values.Open.TheVariants.{InBody as in_body}
use Rattle.world_build.specs.declared.values.Held.{Held}
use Rattle.world_build.specs.declared.values.Held.TheVariants.{Nothing as nothing, Code as body}
use Rattle.world_build.specs.declared.things.ToldThing.TheVariants.{Text as string}

-- the body that closed last, where no slot ended behind it
abbrev pub code_of : Option ℕ → Held
code_of None = nothing
code_of (Some b) = body b

-- these names, strings, bodies, open bodies, the body that closed last, the arguments of the next body, and this size
abbrev pub built_of : List (List ℕ) → List (List ℕ) → List Body → List ℕ → Option ℕ → List ℕ → ℕ → Loading
built_of names strings bodies around code waiting size = record {
  names = names;
  things = map string strings;
  bodies = bodies;
  around = map in_body around;
  held = code_of code;
  waiting = waiting;
  size = size;
}
