-- Paths: a chain of own data slots, from the lobby on.
use Rattle.std.specs.Prelude.{◌≡◌, ◌≢◌, ℕ, Some, List, [], ◌∷◌, map, slice_get}
use Rattle.self_terms.specs.declared.values.Datum.{Datum as Value}
use Rattle.self_terms.specs.declared.values.Datum.TheVariants.{Object as object, Nil as nil}
use Rattle.self_grammar.specs.declared.signs.Spot.{Spot}
use Rattle.self_grammar.specs.Grammar.{Word}
use Rattle.self_grammar.specs.declared.pieces.Item.{Item}
use Rattle.self_grammar.specs.declared.pieces.Item.TheVariants as items
use Rattle.world_build.specs.declared.slots.ToldSlot.{ToldSlot}
use Rattle.world_build.specs.declared.things.ToldThing.{ToldThing}
use Rattle.world_build.specs.declared.things.ToldThing.TheVariants.{Plain as plain}
use Rattle.source_model.specs.Names.{number_of}
use Rattle.world_build.specs.Names.{lobby_text, core_text}
use Rattle.world_build.specs.declared.cores.CoreName.TheVariants.{Nil as nil_name}
use Rattle.world_build.specs.Slots.{slot_of, data_in}

-- An object of slots has an own slot of this name that holds this value: a constant, assignable or parent slot. No other
-- object's slots are looked at.
pub record HasOwn (things : List ToldThing) (o n : ℕ) (v : Value) : Type 0 where
  pub slots : List ToldSlot
  pub plain_object : slice_get things o ≡ Some (plain slots)
  pub holds : data_in (slot_of n slots) ≡ Some v

-- what a value is: the object of its number; and nil the one that the lobby's own slot `nil` holds
pub data IsObject (names : List (List ℕ)) (things : List ToldThing) : Value → ℕ → Type 0 where
  itself : (o : ℕ) → IsObject names things (object o) o
  as_nil : (o : ℕ) → HasOwn things 0 (number_of names (core_text nil_name)) (object o) → IsObject names things nil o

-- From a value, each name leads on to what the own slot of that name holds.
pub data Leads (names : List (List ℕ)) (things : List ToldThing) : Value → List ℕ → Value → Type 0 where
  ended : (v : Value) → Leads names things v [] v
  through : (v : Value) (o n : ℕ) (u : Value) (ns : List ℕ) (w : Value) → IsObject names things v o → HasOwn things o n u
      → Leads names things u ns w → Leads names things v (n ∷ ns) w

-- A path leads from the lobby; its first name may be the lobby's own name.
pub data IsEnd (names : List (List ℕ)) (things : List ToldThing) (n : ℕ) (ns : List ℕ) (v : Value) : Type 0 where
  from_lobby : n ≡ number_of names lobby_text → Leads names things (object 0) ns v → IsEnd names things n ns v
  in_lobby : n ≢ number_of names lobby_text → Leads names things (object 0) (n ∷ ns) v → IsEnd names things n ns v

-- From a value, the names lead on up to this place, where what was reached has no own slot of the name that stands there.
pub data StopsAt (names : List (List ℕ)) (things : List ToldThing) : Value → List Word → Spot → Type 0 where
  no_slot : (v : Value) (w : Word) (ws : List Word) → ((o : ℕ) (u : Value) → IsObject names things v o → HasOwn things o w.name u → ⊥) → StopsAt names things v (w ∷ ws) w.spot
  later : (v : Value) (o : ℕ) (w : Word) (u : Value) (ws : List Word) (p : Spot) → IsObject names things v o → HasOwn things o w.name u → StopsAt names things u ws p
      → StopsAt names things v (w ∷ ws) p

-- A path stops there.
pub data IsStop (names : List (List ℕ)) (things : List ToldThing) (w : Word) (ws : List Word) (p : Spot) : Type 0 where
  behind_lobby : w.name ≡ number_of names lobby_text → StopsAt names things (object 0) ws p → IsStop names things w ws p
  inside_lobby : w.name ≢ number_of names lobby_text → StopsAt names things (object 0) (w ∷ ws) p → IsStop names things w ws p

-- the items of a path, and its names
abbrev pub further_items : List Word → List Item
further_items [] = []
further_items (w ∷ ws) = items.Further w.name w.spot ∷ further_items ws

abbrev pub path_items : Word → List Word → List Item
path_items w ws = items.Root w.name w.spot ∷ further_items ws

abbrev pub names_of : List Word → List ℕ
names_of ws = map (λ (w : Word). w.name) ws
