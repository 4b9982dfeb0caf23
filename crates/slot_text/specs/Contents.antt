-- How what an edit's text says is read off: what locals hold at first, and the text of a body.
use Rattle.std.specs.Prelude.{◌≡◌, ℕ, List, [], ◌∷◌, map}
use Rattle.self_terms.specs.declared.bodies.Body.{Body}
use Rattle.self_tokens.specs.Tokens.{tokens}
use Rattle.self_grammar.specs.declared.pieces.Item.{Item}
use Rattle.self_grammar.specs.Grammar.{Edit}
use Rattle.self_grammar.specs.Spelling.{edit}
use Rattle.self_signs.specs.Signs.{signs, names_after}
use Rattle.self_reader.specs.declared.texts.TheConstants.{LIMITS}
use Rattle.self_reader.specs.Texts.{AreRead}
use Rattle.source_model.specs.Edits.{Initial, Number, String, Path, Nothing, BodyText}
use Rattle.world_build.specs.SlotTexts.{locals_with}
use Rattle.slot_text.specs.declared.contents.InitialTold.{InitialTold}
use Rattle.slot_text.specs.declared.contents.InitialTold.TheVariants as told

-- These items were read of an edit's text of these bytes, within the limits; these names are those behind it.
abbrev pub AreOfEdit : List (List ℕ) → List ℕ → List Item → Type 0
AreOfEdit names bytes items = (before : List (List ℕ)) × AreRead Edit (edit LIMITS) (signs before bytes) items × (names ≡ names_after before bytes (tokens bytes))

-- the initial content of a local
abbrev pub initial : InitialTold → Initial
initial (told.Number z) = Number z
initial (told.String k) = String k
initial (told.Path names) = Path names
initial told.Nothing = Nothing

-- the text of a body, whose locals hold these at first
abbrev pub body_with : List InitialTold → Body → BodyText
body_with row b = record {
  name = b.name;
  outer = b.outer;
  arguments = b.arguments;
  locals = locals_with b.locals (map initial row);
  nodes = b.nodes;
  places = b.places;
}

-- the texts of bodies, each with the row of what its locals hold at first
abbrev pub bodies_with : List (List InitialTold) → List Body → List BodyText
bodies_with rows [] = []
bodies_with [] (b ∷ bs) = []
bodies_with (r ∷ rs) (b ∷ bs) = body_with r b ∷ bodies_with rs bs
