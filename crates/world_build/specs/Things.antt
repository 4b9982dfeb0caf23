-- Objects and strings by their numbers.
use Rattle.std.specs.Prelude.{ℕ, Bool, true, false, Option, None, Some, List, slice_set}
use Rattle.self_terms.specs.declared.values.Datum.{Datum as Value}
use Rattle.world_build.specs.declared.slots.ToldContent.{ToldContent}
use Rattle.world_build.specs.declared.slots.ToldSlot.{ToldSlot}
use Rattle.world_build.specs.declared.things.ToldThing.{ToldThing}
use Rattle.world_build.specs.declared.things.ToldThing.TheVariants.{Plain as plain, Text as string}
use Rattle.world_build.specs.Slots.{slot_of, add_slot, data_in}

abbrev pub own_slot : Option ToldThing → ℕ → Option ToldContent
own_slot None n = None
own_slot (Some (plain slots)) n = slot_of n slots
own_slot (Some (string t)) n = None

abbrev pub own_data : Option ToldThing → ℕ → Option Value
own_data x n = data_in (own_slot x n)

abbrev pub change_thing : ToldSlot → Option ToldThing → List ToldThing → ℕ → List ToldThing
change_thing x None things o = things
change_thing x (Some (plain slots)) things o = slice_set things o (plain (add_slot slots x))
change_thing x (Some (string t)) things o = things

abbrev pub is_string : Option ToldThing → Bool
is_string None = false
is_string (Some (plain slots)) = false
is_string (Some (string t)) = true

abbrev pub is_plain : Option ToldThing → Bool
is_plain None = false
is_plain (Some (plain slots)) = true
is_plain (Some (string t)) = false
