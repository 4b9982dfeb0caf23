-- The core objects of a world, each told by the name of its slot in the lobby.
use Rattle.std.specs.Prelude.{◌≡◌, ℕ, Some, List, slice_get, codes}
use Rattle.self_terms.specs.declared.values.Value.TheVariants.{Object}
use Rattle.source_model.specs.declared.objects.Slot.{Slot}
use Rattle.source_model.specs.declared.objects.Content.TheVariants.{Constant}
use Rattle.source_model.specs.declared.objects.Thing.TheVariants.{Plain}
use Rattle.source_model.specs.Names.{number_of}
use Rattle.source_model.specs.Slots.{slot_named}
use Rattle.world_build.specs.Worlds.{World}

-- The lobby has a constant slot of this name, which holds this object; and the object has slots.
pub record IsNamed (w : World) (name : List ℕ) (o : ℕ) : Type 0 where
  pub lobby : List Slot
  pub plain_lobby : slice_get w.things 0 ≡ Some (Plain lobby)
  pub slot : slot_named (number_of w.names name) lobby ≡ Some (record { name = number_of w.names name; content = Constant (Object o) })
  pub slots : List Slot
  pub plain_object : slice_get w.things o ≡ Some (Plain slots)

-- Each core object is the one of its name.
pub record HasCores (w : World) : Type 0 where
  pub nil : IsNamed w (codes "nil") w.core.nil
  pub yes : IsNamed w (codes "true") w.core.yes
  pub no : IsNamed w (codes "false") w.core.no
  pub integers : IsNamed w (codes "integerTraits") w.core.integers
  pub strings : IsNamed w (codes "stringTraits") w.core.strings
  pub vectors : IsNamed w (codes "vectorTraits") w.core.vectors
  pub blocks : IsNamed w (codes "blockTraits") w.core.blocks
