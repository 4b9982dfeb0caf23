-- What holds of every world that is built of an accepted text: values and parents are there, no slot has the name 0, which is no text's,
-- and strings are bytes.
use Rattle.std.specs.Prelude.{◌≡◌, ◌≢◌, ℕ, ◌<◌, ◌≤◌, Some, List, [], ◌∷◌, length, slice_get, ℤ}
use Rattle.self_terms.specs.declared.values.Value.{Value}
use Rattle.self_terms.specs.declared.values.Value.TheVariants as values
use Rattle.self_terms.specs.Words.{IsSmall}
use Rattle.source_model.specs.declared.objects.Slot.{Slot}
use Rattle.source_model.specs.declared.objects.Content.{Content}
use Rattle.source_model.specs.declared.objects.Content.TheVariants.{Constant, Assignable, Assignment, Parent, Method}
use Rattle.source_model.specs.declared.objects.Thing.{Thing}
use Rattle.source_model.specs.declared.objects.Thing.TheVariants.{Plain, Vector, Text}
use Rattle.source_model.specs.declared.objects.Core.{Core}
use Rattle.self_grammar.specs.declared.pieces.SlotForm.{SlotForm}
use Rattle.self_grammar.specs.declared.pieces.SlotForm.TheVariants as form
use Rattle.self_grammar.specs.declared.pieces.Item.{Item}
use Rattle.self_grammar.specs.declared.pieces.Item.TheVariants as items
use Rattle.world_build.specs.Worlds.{World}

-- an integer of 30 bits, or one of so many objects; a text makes no block
abbrev pub IsThere : ℕ → Value → Type 0
IsThere count (values.Int i) = IsSmall i
IsThere count (values.Object o) = o < count
IsThere count (values.Block body maker) = ⊥

-- what a slot holds is there, and a parent is an object
abbrev pub HoldsThere : ℕ → Content → Type 0
HoldsThere count (Constant v) = IsThere count v
HoldsThere count (Assignable v) = IsThere count v
HoldsThere count Assignment = Unit {0}
HoldsThere count (Parent o) = o < count
HoldsThere count (Method b) = Unit {0}

-- an object of slots, each with a name, or a string of bytes
abbrev pub IsGiven : ℕ → Thing → Type 0
IsGiven count (Plain slots) = (i : ℕ) (s : Slot) → slice_get slots i ≡ Some s → (s.name ≢ 0) × HoldsThere count s.content
IsGiven count (Vector items) = ⊥
IsGiven count (Text bytes) = (i b : ℕ) → slice_get bytes i ≡ Some b → b < 256

-- the core objects are there
pub record HasCore (count : ℕ) (core : Core) : Type 0 where
  pub nil : core.nil < count
  pub yes : core.yes < count
  pub no : core.no < count
  pub integers : core.integers < count
  pub strings : core.strings < count
  pub vectors : core.vectors < count
  pub blocks : core.blocks < count

pub record IsWhole (w : World) : Type 0 where
  pub things : (k : ℕ) (x : Thing) → slice_get w.things k ≡ Some x → IsGiven (length w.things) x
  pub core : HasCore (length w.things) w.core

-- P holds of the integers of all data,
abbrev pub IsDatum : (ℤ → Type 0) → Item → Type 0
IsDatum P (items.Integer z) = P z
IsDatum P _ = Unit {0}

abbrev pub AreData : (ℤ → Type 0) → List Item → Type 0
AreData P [] = Unit {0}
AreData P (i ∷ is) = IsDatum P i × AreData P is

-- and of the names of all assignment slots.
abbrev pub IsNamed : (ℕ → Type 0) → SlotForm → Type 0
IsNamed P (form.Assignable setter) = P setter
IsNamed P (form.Bare setter) = P setter
IsNamed P _ = Unit {0}

abbrev pub IsNamedItem : (ℕ → Type 0) → Item → Type 0
IsNamedItem P (items.Slot w f p) = IsNamed P f
IsNamedItem P _ = Unit {0}

abbrev pub AreNamed : (ℕ → Type 0) → List Item → Type 0
AreNamed P [] = Unit {0}
AreNamed P (i ∷ is) = IsNamedItem P i × AreNamed P is
