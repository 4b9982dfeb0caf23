-- What numbers the objects, strings and bodies of a text have, and what its size is, told from the items alone: both numbers
-- follow the order in which the text's tokens begin.
use Rattle.std.specs.Prelude.{◌≡◌, ℕ, zero, suc, ◌+◌, Bool, true, false, Option, None, Some, List, [], ◌∷◌, ◌++◌, length, map}
use Rattle.self_terms.specs.declared.bodies.Body.{Body}
use Rattle.self_tokens.specs.Texts.{unescaped}
use Rattle.self_grammar.specs.declared.signs.Spot.{Spot}
use Rattle.self_grammar.specs.declared.pieces.TextNode.{TextNode}
use Rattle.self_grammar.specs.declared.pieces.TextNode.TheVariants as text
use Rattle.self_grammar.specs.declared.pieces.Item.{Item}
use Rattle.self_grammar.specs.declared.pieces.Item.TheVariants as items
use Rattle.source_model.specs.declared.objects.Thing.{Thing}
use Rattle.source_model.specs.declared.objects.Thing.TheVariants.{Plain, Vector, Text}
use Rattle.world_build.specs.Loading.{place, is_object, between}
use Rattle.world_build.specs.Worlds.{World, fixed_strings}

-- Objects and strings.

-- an object literal, or a string literal with the bytes that it stands for
pub data TextObject : Type 0 where
  object_literal : TextObject
  string_literal : List ℕ → TextObject

-- no literal is a vector
abbrev pub text_object_of : Thing → Option TextObject
text_object_of (Plain slots) = Some object_literal
text_object_of (Vector values) = None
text_object_of (Text bytes) = Some (string_literal bytes)

abbrev pub string_object : List ℕ → ℕ → ℕ → TextObject
string_object bytes i j = string_literal (unescaped (between bytes i j))

abbrev pub node_objects : List ℕ → TextNode → List TextObject
node_objects bytes (text.Text i j) = string_object bytes i j ∷ []
node_objects bytes _ = []

abbrev pub opened_objects : Bool → List TextObject
opened_objects true = object_literal ∷ []
opened_objects false = []

-- what literal an item begins, before these items
abbrev pub item_objects : List ℕ → Item → List Item → List TextObject
item_objects bytes (items.Node m) rest = node_objects bytes m.node
item_objects bytes (items.Opened p) rest = opened_objects (is_object 0 rest)
item_objects bytes (items.Text i j) rest = string_object bytes i j ∷ []
item_objects bytes _ rest = []

-- the object and string literals of a text, in the order of their first tokens
abbrev pub text_objects : List ℕ → List Item → List TextObject
text_objects bytes [] = []
text_objects bytes (i ∷ is) = item_objects bytes i is ++ text_objects bytes is

-- Size.

abbrev pub one_for : Bool → ℕ
one_for true = 1
one_for false = 0

-- A slot, argument or local counts one, and so do an object literal and a node.
abbrev pub item_size : Item → List Item → ℕ
item_size (items.Node m) rest = 1
item_size (items.Opened p) rest = one_for (is_object 0 rest)
item_size (items.Argument n) rest = 1
item_size (items.Named n) rest = 1
item_size (items.Slot w f p) rest = 1
item_size _ rest = 0

abbrev pub size_of : List Item → ℕ
size_of [] = 0
size_of (i ∷ is) = item_size i is + size_of is

-- Bodies.

-- the places of the nodes that stand directly in what is open so many levels out
abbrev pub spots : ℕ → List Item → List Spot
spots out [] = []
spots out (items.Opened p ∷ rest) = spots (suc out) rest
spots zero (items.Node m ∷ rest) = m.spot ∷ spots zero rest
spots (suc out) (items.Node m ∷ rest) = spots (suc out) rest
spots zero (items.ClosedObject ∷ rest) = []
spots (suc out) (items.ClosedObject ∷ rest) = spots out rest
spots zero (items.ClosedBody ∷ rest) = []
spots (suc out) (items.ClosedBody ∷ rest) = spots out rest
spots out (_ ∷ rest) = spots out rest

abbrev pub opened_spots : Bool → List Item → List (List Spot)
opened_spots true rest = []
opened_spots false rest = spots 0 rest ∷ []

abbrev pub item_spots : Item → List Item → List (List Spot)
item_spots (items.Opened p) rest = opened_spots (is_object 0 rest) rest
item_spots _ rest = []

-- For each body in the order in which they open, the places of its own nodes in order.
abbrev pub body_spots : List Item → List (List Spot)
body_spots [] = []
body_spots (i ∷ is) = item_spots i is ++ body_spots is

-- A world numbers the lobby, then the object and string literals of its text in the order of their first tokens, then the
-- fixed strings; its bodies stand in the order in which they open; its size counts the lobby, the object text_objects, the slots,
-- arguments and locals, and the nodes.
pub record IsNumbered (bytes : List ℕ) (is : List Item) (w : World) : Type 0 where
  pub things : map text_object_of w.things ≡ map Some ((object_literal ∷ text_objects bytes is) ++ map string_literal fixed_strings)
  pub objects : w.objects ≡ 1 + length (text_objects bytes is)
  pub bodies : map (λ (b : Body). b.places) w.bodies ≡ map (map place) (body_spots is)
  pub size : w.size ≡ 1 + size_of is
