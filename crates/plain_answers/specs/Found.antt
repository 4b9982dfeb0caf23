-- What a message meets, where a lookup over words finds no slot, an assignment slot or a method.
use Rattle.std.specs.Prelude.{◌≡◌, ◌⊎◌, ℕ, suc, ◌+◌, ◌*◌, ◌<◌, ◌≤◌, length, Option, Some, None, slice_get}
use Rattle.self_terms.specs.declared.errors.ErrorName.{ErrorName}
use Rattle.self_terms.specs.declared.errors.ErrorName.TheVariants as errors
use Rattle.self_terms.specs.declared.values.BodyId.{BodyId}
use Rattle.self_terms.specs.declared.values.Value.{Value}
use Rattle.self_terms.specs.declared.values.Value.TheVariants as values
use Rattle.object_maps.specs.declared.maps.SlotKind.TheVariants.{Assign, Field, Method as MethodSlot}
use Rattle.object_maps.specs.Layout.{map_at}
use Rattle.object_maps.specs.Slots.{slots_in}
use Rattle.slot_lookup.specs.declared.sends.Found.{Found}
use Rattle.slot_lookup.specs.declared.sends.Found.TheVariants.{NotUnderstood, One, Ambiguous}
use Rattle.slot_lookup.specs.Lookup.{found_from, found_above, found_through, slot_at}
use Rattle.sparc_store.specs.Words.{HasWord}
use Rattle.source_model.specs.Objects.{Object}
use Rattle.source_model.specs.declared.objects.Content.TheVariants.{Assignment, Method}
use Rattle.source_model.specs.declared.objects.Thing.TheVariants.{Plain}
use Rattle.source_model.specs.Formed.{IsWellFormed}
use Rattle.source_model.specs.Messages.{Met, Missing, Holds, body_of, meets, meets_above, meets_through}
use Rattle.source_model.specs.Names.{number_of, evaluator}
use Rattle.source_model.specs.State.{State}
use Rattle.heap_cells.specs.Standing.{IsValue}
use Rattle.frame_walk.specs.Raw.{Raw}
use Rattle.raw_steps.specs.Meeting.{HasCore}
use Rattle.raw_steps.specs.Slots.{IsBehind}
use Rattle.raw_steps.specs.Stands.{Sense, Stands}

-- what a lookup of a name over words and what the message meets have to do with one another
abbrev pub Tells : Type 1
Tells = Sense → Raw → State → ℕ → Found → Met → Type 0

-- This holds of each lookup from the word of a receiver; for a resend, above the word of the method holder; and for a directed resend, through
-- its parent of that name.
abbrev pub OfValues : (Value → ℕ → Tells) → Type 0
OfValues tells = (z : Sense) (r : Raw) (s : State) → Stands z r s → HasCore r s z → (v : Value) (w name room : ℕ) → IsValue z.cells z.places v w → length s.things ≤ room → tells v w z r s name (found_from r.maps r.mem room w name) (meets s v name)

abbrev pub OfHolders : Tells → Type 0
OfHolders tells = (z : Sense) (r : Raw) (s : State) → Stands z r s → HasCore r s z → (n w name room : ℕ) → slice_get z.places.objects n ≡ Some w → length s.things ≤ room → tells z r s name (found_above r.maps r.mem room w name) (meets_above s n name)

abbrev pub OfParents : Tells → Type 0
OfParents tells = (z : Sense) (r : Raw) (s : State) → Stands z r s → HasCore r s z → (parent n w name room : ℕ) → slice_get z.places.objects n ≡ Some w → length s.things ≤ room
    → tells z r s name (found_through r.maps r.mem room (slot_at r.maps r.mem parent w) name) (meets_through s n parent name)

-- the error of a lookup that finds no slot, or more than one
abbrev pub error_of : Found → Option ErrorName
error_of NotUnderstood = Some errors.NotUnderstood
error_of (Ambiguous a b) = Some errors.Ambiguous
error_of (One holder kind) = None

abbrev pub Misses : Tells
Misses z r s name found met = (e : ErrorName) → error_of found ≡ Some e → met ≡ Missing e

-- What was met is an assignment slot of an object, by its word, directly behind the data that it sets: that stands at this place of the object's
-- words.
pub record IsAssignment (z : Sense) (r : Raw) (s : State) (met : Met) (name holder place : ℕ) : Type 0 where
  pub object : ℕ
  pub met_is : met ≡ Holds object Assignment
  pub slots : Object
  pub was : slice_get s.things object ≡ Some (Plain slots)
  pub there : slice_get z.places.objects object ≡ Some holder
  pub number : ℕ
  pub own : ℕ
  pub old : Value
  pub behind : IsBehind slots name number own old
  pub found : slice_get (slots_in r.maps (map_at r.mem holder)) (suc number) ≡ Some (name, Assign place)

abbrev pub Assigns : Tells
Assigns z r s name found met = IsWellFormed s → (holder place : ℕ) → found ≡ One holder (Assign place) → IsAssignment z r s met name holder place

-- that place is a word's
abbrev pub AssignmentsHaveWords : Type 0
AssignmentsHaveWords = (z : Sense) (r : Raw) (s : State) → Stands z r s → (met : Met) (name holder place : ℕ) → IsAssignment z r s met name holder place → HasWord (holder + 7 + 4 * place)

-- and so is that of the data of an assignable slot that was found
abbrev pub Reads : Tells
Reads z r s name found met = (holder place : ℕ) → found ≡ One holder (Field place) → HasWord (holder + 7 + 4 * place)

-- what was met is a method of an object, by its word
pub record IsMethod (z : Sense) (s : State) (met : Met) (holder : ℕ) (c : BodyId) : Type 0 where
  pub object : ℕ
  pub met_is : met ≡ Holds object (Method c)
  pub there : slice_get z.places.objects object ≡ Some holder
  pub inside : object < length s.things

-- it is a block's own, which evaluates it: the block counts as one more object behind all others
pub record Evaluates (s : State) (met : Met) (name holder : ℕ) (c b : BodyId) (w : ℕ) : Type 0 where
  pub met_is : met ≡ Holds (length s.things) (Method c)
  pub holder_is : holder ≡ w
  pub body_is : c ≡ b
  pub name_is : name ≡ number_of s.names (evaluator (length (body_of s b.0).arguments))

abbrev pub Finds : Tells
Finds z r s name found met = (holder : ℕ) (c : BodyId) → found ≡ One holder (MethodSlot c) → IsMethod z s met holder c

abbrev pub ValuesFind : Value → ℕ → Tells
ValuesFind (values.Block b maker) w z r s name found met = (holder : ℕ) (c : BodyId) → found ≡ One holder (MethodSlot c) → IsMethod z s met holder c ⊎ Evaluates s met name holder c b w
ValuesFind _ w z r s name found met = Finds z r s name found met
