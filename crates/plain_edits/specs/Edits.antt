-- What an edit of a method's slot does to machine and host.
use Rattle.std.specs.Prelude.{◌≡◌, ℕ, ◌+◌, ◌*◌, ◌≤◌, List, ◌∷◌, ◌++◌, length, map, Some, slice_get}
use Rattle.self_terms.specs.declared.bodies.Body.{Body}
use Rattle.self_terms.specs.declared.values.BodyId.{BodyId}
use Rattle.self_terms.specs.declared.values.Value.TheVariants as values
use Rattle.object_maps.specs.declared.layout.Heap.{Heap}
use Rattle.object_maps.specs.declared.maps.SlotKind.TheVariants as kind
use Rattle.object_maps.specs.Layout.{map_at}
use Rattle.object_maps.specs.Slots.{Slots, slots_in}
use Rattle.sparc_store.specs.Words.{Words}
use Rattle.sparc_machine.specs.State.{put}
use Rattle.source_model.specs.declared.objects.Content.TheVariants.{Method}
use Rattle.source_model.specs.Edits.{SlotText, own_content, follow, bodies_in}
use Rattle.source_model.specs.Names.{number_of}
use Rattle.source_model.specs.Soundness.{HasBody}
use Rattle.source_model.specs.State.{State}
use Rattle.source_model.specs.Told.{IsSlotText}
use Rattle.heap_cells.specs.Heaps.{IsBlockMap}
use Rattle.raw_steps.specs.Stands.{Sense}
use Rattle.plain_words.specs.Translating.{CanTranslate}
use Rattle.plain_runs.specs.Host.{Host}
use Rattle.world_blocks.specs.Sessions.{block_maps, numbers_from}
use Rattle.plain_edits.specs.Heaps.{with_kind, texts_words, text_references, IsEdited}

-- An edit in words: what the text says of the slot, and its bodies; the names of the session; the references to the parent of all blocks, to the object
-- whose slot it is, and to the objects that were made since units were told of objects.
pub record Edit : Type 0 where
  pub text : SlotText
  pub bodies : List Body
  pub names : List (List ℕ)
  pub traits : ℕ
  pub word : ℕ
  pub since : List ℕ

-- the slots of the object, with the first new body in the slot of the name
abbrev pub edited_map : Edit → Host → Slots
edited_map e h = with_kind e.text.name (kind.Method (record { 0 = length h.bodies + 1 })) (slots_in h.maps (map_at h.machine.memory e.word))

-- the top of the heap, and the next object's number
abbrev pub heap_of : Host → Heap
heap_of h = record { top = h.machine.regs 6; next = h.next }

-- The strings stand at the heap's top in this memory, where the object has its new map, and are known to units as the last objects; new bodies stand
-- behind the others, and have no units yet; those of blocks have maps.
abbrev pub with_edit : Edit → Words → Host → Host
with_edit e memory h = record h {
  machine = put (record h.machine { memory = memory }) 6 (h.machine.regs 6 + 4 * texts_words e.text.strings);
  maps = h.maps ++ edited_map e h ∷ block_maps e.names e.traits (length h.bodies + 1) e.bodies;
  next = h.next + length e.text.strings;
  bodies = h.bodies ++ e.bodies;
  references = record h.references {
    objects = h.references.objects ++ (e.since ++ text_references (h.machine.regs 6) e.text.strings);
    blocks = h.references.blocks ++ numbers_from (length h.maps + 1) e.bodies;
  };
  entries = h.entries ++ map (λ (x : Body). 0) e.bodies;
}

-- The source accepts the edit of the slot of an object to which a path leads.
pub record IsAccepted (s : State) (path : List (List ℕ)) (e : Edit) (o : ℕ) : Type 0 where
  pub fits : IsSlotText s.names e.text
  pub leads : follow s (map (number_of s.names) path) ≡ Some (values.Object o)
  pub bodies : bodies_in s e.text ≡ Some e.bodies
  pub old : BodyId
  pub method : own_content s (values.Object o) e.text.name ≡ Some (Method old)
  pub small : s.size + e.text.size ≤ 65536

-- The words of the edit stand for what it says: names and references are those of the state.
pub record IsWorded (z : Sense) (h : Host) (s : State) (e : Edit) (o : ℕ) : Type 0 where
  pub names : e.names ≡ s.names
  pub traits : slice_get z.places.objects s.core.blocks ≡ Some e.traits
  pub word : slice_get z.places.objects o ≡ Some e.word
  pub since : (k w : ℕ) → slice_get e.since k ≡ Some w → slice_get z.places.objects (length h.references.objects + k) ≡ Some w
  pub all : length h.references.objects + length e.since ≡ h.next

-- Units have a number for the map of each body's blocks, and each map of blocks is that of a body which is there.
pub record KnowsBlocks (h : Host) : Type 0 where
  pub numbered : length h.references.blocks ≡ length h.bodies
  pub there : (map b : ℕ) → 3 ≤ map → IsBlockMap b (slots_in h.maps map) → HasBody h.bodies b

-- the words of each new body fit their fields
abbrev pub NewTranslate : Edit → Type 0
NewTranslate e = (k : ℕ) (x : Body) → slice_get e.bodies k ≡ Some x → CanTranslate x

-- memory is that of the edit
abbrev pub IsMemory : Host → Edit → Words → Type 0
IsMemory h e memory = IsEdited h.machine.memory memory (heap_of h) e.word (length h.maps) e.text.strings
