-- The world of a text: what its items built, with the fixed strings and the core objects.
use Rattle.std.specs.Prelude.{ℕ, if◌then◌else◌, Option, None, Some, Result, Ok, Err, List, [], ◌∷◌, ◌++◌, length, map, slice_get, option_map, codes}
use Rattle.self_terms.specs.declared.values.BodyId.{BodyId}
use Rattle.self_terms.specs.declared.bodies.Body.{Body}
use Rattle.self_grammar.specs.declared.pieces.Item.{Item}
use Rattle.source_model.specs.declared.objects.Slot.{Slot}
use Rattle.source_model.specs.declared.objects.Content.{Content}
use Rattle.source_model.specs.declared.objects.Thing.{Thing}
use Rattle.source_model.specs.declared.objects.Content.TheVariants.{Method}
use Rattle.source_model.specs.declared.objects.Thing.TheVariants.{Text}
use Rattle.source_model.specs.Slots.{slot_named}
use Rattle.source_model.specs.declared.objects.Core.{Core}
use Rattle.source_model.specs.Edits.{plain_slots}
use Rattle.world_build.specs.declared.cores.CoreName.{CoreName}
use Rattle.world_build.specs.declared.slots.ToldContent.{ToldContent}
use Rattle.world_build.specs.declared.slots.ToldContent.TheVariants.{Constant as constant}
use Rattle.world_build.specs.declared.things.ToldThing.{ToldThing}
use Rattle.world_build.specs.declared.refusals.BuildRefusal.{BuildRefusal}
use Rattle.world_build.specs.declared.refusals.BuildRefusal.TheVariants.{MissingCore}
use Rattle.world_build.specs.declared.loading.Loading.{Loading}
use Rattle.source_model.specs.Names.{number_of}
use Rattle.world_build.specs.Names.{core_text, core_names}
use Rattle.world_build.specs.Things.{own_slot, is_plain}
use Rattle.world_build.specs.Telling.{core_of, thing_of}
use Rattle.world_build.specs.Loading.{begun, object_in}
use Rattle.world_build.specs.Nodes.{loaded}

-- The strings that every world has behind those of its text: six names of errors, nineteen of primitives, and one more.
abbrev pub fixed_strings : List (List ℕ)
fixed_strings =
    codes "badTypeError" ∷ codes "overflowError" ∷ codes "divisionByZeroError" ∷ codes "badIndexError" ∷ codes "badSizeError" ∷ codes "primitiveNotDefined"
    ∷ codes "_IntAdd:" ∷ codes "_IntSub:" ∷ codes "_IntMul:" ∷ codes "_IntDiv:" ∷ codes "_IntMod:" ∷ codes "_IntAnd:" ∷ codes "_IntOr:" ∷ codes "_IntXor:"
    ∷ codes "_IntLT:" ∷ codes "_IntLE:" ∷ codes "_IntEQ:" ∷ codes "_Eq:" ∷ codes "_Clone" ∷ codes "_VectorNew" ∷ codes "_Size" ∷ codes "_At:" ∷ codes "_At:Put:"
    ∷ codes "_StringPrint" ∷ codes "_IntPrint" ∷ codes "undefined" ∷ []

-- A core object is what a constant slot of the lobby holds, where that is an object of slots.
abbrev pub plain_number : List ToldThing → Option ℕ → Option ℕ
plain_number things None = None
plain_number things (Some o) = if is_plain (slice_get things o) then Some o else None

abbrev pub core_in : Loading → Option ToldContent → Option ℕ
core_in s (Some (constant v)) = plain_number s.things (object_in s v)
core_in s _ = None

abbrev pub core_object : Loading → CoreName → Option ℕ
core_object s name = core_in s (own_slot (slice_get s.things 0) (number_of s.names (core_text name)))

abbrev pub with_core : CoreName → Option ℕ → Result (List ℕ) BuildRefusal → Result (List ℕ) BuildRefusal
with_core name None more = Err (MissingCore name)
with_core name (Some o) (Ok os) = Ok (o ∷ os)
with_core name (Some o) (Err r) = Err r

-- the numbers of the core objects, or the first name without one
abbrev pub cores : Loading → List CoreName → Result (List ℕ) BuildRefusal
cores s [] = Ok []
cores s (n ∷ ns) = with_core n (core_object s n) (cores s ns)

-- A world: the texts of its names; its objects, those of the text and then the fixed strings; how many of them are the text's;
-- its bodies; its size; the core objects.
pub record World : Type 0 where
  pub names : List (List ℕ)
  pub things : List Thing
  pub objects : ℕ
  pub bodies : List Body
  pub size : ℕ
  pub core : Core

abbrev pub world_with : Loading → Core → World
world_with s core = record {
  names = s.names;
  things = map (thing_of core) s.things ++ map Text fixed_strings;
  objects = length s.things;
  bodies = s.bodies;
  size = s.size;
  core = core;
}

abbrev pub world_of : Loading → Result (List ℕ) BuildRefusal → Result World BuildRefusal
world_of s (Err r) = Err r
world_of s (Ok core) = Ok (world_with s (core_of core))

abbrev pub finished : Result Loading BuildRefusal → Result World BuildRefusal
finished (Err r) = Err r
finished (Ok s) = world_of s (cores s core_names)

-- The world of the items of a text of these bytes, with these names; or the first refusal.
abbrev pub built : List (List ℕ) → List ℕ → List Item → Result World BuildRefusal
built names bytes is = finished (loaded bytes is (begun names))

-- the body of the lobby's own method slot of a name
abbrev pub method_in : Option Content → Option BodyId
method_in (Some (Method b)) = Some b
method_in _ = None

abbrev pub lobby_method : World → ℕ → Option BodyId
lobby_method w n = method_in (option_map (λ (x : Slot). x.content) (slot_named n (plain_slots (slice_get w.things 0))))
