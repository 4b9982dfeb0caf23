-- What opens, an object or a body, told from the end of the items to their beginning. Used by contracts of private functions alone.
use Rattle.std.specs.Prelude.{Bool, true, false, List, [], ◌∷◌}
use Rattle.self_grammar.specs.declared.pieces.Item.{Item}
use Rattle.self_grammar.specs.declared.pieces.Item.TheVariants as items

abbrev pub first_of : List Bool → Bool
first_of [] = false
first_of (k ∷ ks) = k

abbrev pub but_first : List Bool → List Bool
but_first [] = []
but_first (k ∷ ks) = ks

-- How what is open is closed, the innermost first, before an item and what is behind it.
abbrev pub closings_with : Item → List Bool → List Bool
closings_with (items.Opened p) ks = but_first ks
closings_with items.ClosedObject ks = true ∷ ks
closings_with items.ClosedBody ks = false ∷ ks
closings_with _ ks = ks

abbrev pub closings : List Item → List Bool
closings [] = []
closings (i ∷ is) = closings_with i (closings is)

-- Whether what opens is an object, for each item that opens something.
abbrev pub openings_with : Item → List Bool → List Bool → List Bool
openings_with (items.Opened p) ks os = first_of ks ∷ os
openings_with _ ks os = os

abbrev pub openings : List Item → List Bool
openings [] = []
openings (i ∷ is) = openings_with i (closings is) (openings is)

-- whether an item opens an object, and what opens behind it
abbrev pub kind_at : Item → List Bool → Bool
kind_at (items.Opened p) os = first_of os
kind_at _ os = false

abbrev pub kinds_behind : Item → List Bool → List Bool
kinds_behind (items.Opened p) os = but_first os
kinds_behind _ os = os
