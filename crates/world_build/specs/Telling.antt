-- What the objects of a text are to the source, once its core objects are known: each nil is told.
use Rattle.std.specs.Prelude.{ℕ, List, map, slice_index_or}
use Rattle.self_terms.specs.declared.values.Datum.{Datum}
use Rattle.self_terms.specs.declared.values.Datum.TheVariants as datum
use Rattle.source_model.specs.declared.objects.Slot.{Slot}
use Rattle.source_model.specs.declared.objects.Content.{Content}
use Rattle.source_model.specs.declared.objects.Thing.{Thing}
use Rattle.source_model.specs.declared.objects.Content.TheVariants.{Constant, Assignable, Assignment, Parent, Method}
use Rattle.source_model.specs.declared.objects.Thing.TheVariants.{Plain, Text}
use Rattle.source_model.specs.declared.objects.Core.{Core}
use Rattle.source_model.specs.Messages.{value_of}
use Rattle.world_build.specs.declared.slots.ToldContent.{ToldContent}
use Rattle.world_build.specs.declared.slots.ToldContent.TheVariants as told
use Rattle.world_build.specs.declared.slots.ToldSlot.{ToldSlot}
use Rattle.world_build.specs.declared.things.ToldThing.{ToldThing}
use Rattle.world_build.specs.declared.things.ToldThing.TheVariants as things

-- the core objects, whose numbers stand in the order of their names
abbrev pub core_of : List ℕ → Core
core_of numbers = record {
  nil = slice_index_or numbers 0 0;
  yes = slice_index_or numbers 1 0;
  no = slice_index_or numbers 2 0;
  integers = slice_index_or numbers 3 0;
  strings = slice_index_or numbers 4 0;
  vectors = slice_index_or numbers 5 0;
  blocks = slice_index_or numbers 6 0;
}

-- the object that a parent slot holds; no accepted text has an integer there
abbrev pub object_of : Core → Datum → ℕ
object_of core (datum.Integer i) = 0
object_of core (datum.Object o) = o
object_of core datum.Nil = core.nil

abbrev pub content_of : Core → ToldContent → Content
content_of core (told.Constant v) = Constant (value_of core v)
content_of core (told.Assignable v) = Assignable (value_of core v)
content_of core told.Assignment = Assignment
content_of core (told.Parent v) = Parent (object_of core v)
content_of core (told.Method b) = Method (record { 0 = b })

abbrev pub slot_from : Core → ToldSlot → Slot
slot_from core x = record { name = x.name; content = content_of core x.content }

abbrev pub thing_of : Core → ToldThing → Thing
thing_of core (things.Plain slots) = Plain (map (slot_from core) slots)
thing_of core (things.Text bytes) = Text bytes
