-- What an edit does to maps and to the words of the heap.
use Rattle.std.specs.Prelude.{◌≡◌, ◌≢◌, ◌⊎◌, ℕ, ◌+◌, ◌-◌, ◌*◌, ◌/◌, ◌<◌, ◌≤◌, ◌==◌, if◌then◌else◌, List, [], ◌∷◌, ◌++◌, length, map, Some, option_map, slice_get}
use Rattle.self_terms.specs.declared.values.BodyId.{BodyId}
use Rattle.object_maps.specs.declared.layout.Heap.{Heap}
use Rattle.object_maps.specs.declared.maps.SlotKind.{SlotKind}
use Rattle.object_maps.specs.declared.maps.SlotKind.TheVariants as kind
use Rattle.object_maps.specs.Layout.{map_at}
use Rattle.object_maps.specs.Slots.{Slots, slots_in}
use Rattle.object_maps.specs.Sound.{HasListed}
use Rattle.source_model.specs.Objects.{Object, AreNamedOnce, slot_named, replaced, with_slots, changed_at}
use Rattle.source_model.specs.declared.objects.Slot.{Slot}
use Rattle.source_model.specs.declared.objects.Content.TheVariants.{Method}
use Rattle.source_model.specs.Canon.{Each}
use Rattle.sparc_store.specs.Words.{Words, word_at, IsWithin, Stored}
use Rattle.heap_cells.specs.Cloning.{IsWritten}
use Rattle.heap_cells.specs.Shapes.{Text, words_of}
use Rattle.heap_cells.specs.Laying.{Cells, Holds}
use Rattle.heap_cells.specs.Source.{Thing, Slotted, Bytes, Made}
use Rattle.heap_cells.specs.Standing.{Places, AreBytes}
use Rattle.heap_cells.specs.Heaps.{IsHeap, After}

-- a map, with another kind in the slot of a name
abbrev pub with_kind : ℕ → SlotKind → Slots → Slots
with_kind name k slots = map (λ (s : ℕ × SlotKind). if s.0 == name then (name, k) else s) slots

-- how many words a string takes in the heap, and how many several do
abbrev pub text_words : List ℕ → ℕ
text_words bytes = 3 + (length bytes + 3) / 4

abbrev pub texts_words : List (List ℕ) → ℕ
texts_words [] = 0
texts_words (x ∷ xs) = text_words x + texts_words xs

-- the references to strings that stand one behind the other from an address on
abbrev pub text_references : ℕ → List (List ℕ) → List ℕ
text_references at [] = []
text_references at (x ∷ xs) = (at + 1) ∷ text_references (at + 4 * text_words x) xs

-- they stand there, the first with this number
abbrev pub AreTexts : Words → ℕ → ℕ → List (List ℕ) → Type 0
AreTexts mem at number [] = Unit {0}
AreTexts mem at number (x ∷ xs) = Holds mem at (words_of (Text number x)) × AreTexts mem (at + 4 * text_words x) (number + 1) xs

-- Memory after an edit: the object of a reference has another map, and the strings stand at what was the top of the heap.
pub record IsEdited (old new : Words) (heap : Heap) (word map : ℕ) (strings : List (List ℕ)) : Type 0 where
  pub within : IsWithin new
  pub mapped : word_at new (word - 1) ≡ 4 * map
  pub texts : AreTexts new heap.top heap.next strings
  pub room : heap.top + 4 * texts_words strings ≤ 0x20000000 + 46137344
  pub others : (b : ℕ) → b ≢ word - 1 → (b < heap.top) ⊎ (heap.top + 4 * texts_words strings ≤ b) → word_at new b ≡ word_at old b

-- the top of the heap, and the next object's number
abbrev pub heap_behind : List (List ℕ) → Heap → Heap
heap_behind strings heap = record { top = heap.top + 4 * texts_words strings; next = heap.next + length strings }

-- Where the slot of a name of an object is a method, and the object is given a new map with another method there, behind which stand further maps whose
-- parents are there: the heap then stands for the objects with that method in that slot of that object alone, and with the strings behind them.
abbrev pub HeapsFollowEdits : Type 0
HeapsFollowEdits =
    (maps more : List Slots) (mem new : Words) (heap : Heap) (h : Cells) (p : Places) (things : List Thing) (made : List Made) → IsHeap maps mem heap h p things made → IsWithin mem
    → (o word name : ℕ) (slots : Object) (old b : BodyId) (strings : List (List ℕ)) → slice_get p.objects o ≡ Some word → slice_get things o ≡ Some (Slotted slots)
    → AreNamedOnce slots → option_map (λ (s : Slot). s.content) (slot_named name slots) ≡ Some (Method old) → Each (HasListed p.objects) more → Each AreBytes strings
    → IsEdited mem new heap word (length maps) strings
    → After (maps ++ with_kind name (kind.Method b) (slots_in maps (map_at mem word)) ∷ more) new (heap_behind strings heap) h p (record p { objects = p.objects ++ text_references heap.top strings })
    (changed_at (with_slots (replaced name (Method b))) o (things ++ map Bytes strings)) made

-- Strings are written one after the other from an address on, the first with this number.
abbrev pub AreWritten : Words → Words → ℕ → ℕ → List (List ℕ) → Type 0
AreWritten old new at number [] = new ≡ old
AreWritten old new at number (x ∷ xs) = (mid : Words) × (IsWritten old mid at number x × AreWritten mid new (at + 4 * text_words x) (number + 1) xs)

-- Where that was done at the heap's top, and then the object's word for its map was stored, memory is that of the edit, and the strings are of bytes.
abbrev pub EditsAreWritten : Type 0
EditsAreWritten =
    (old mid new : Words) (heap : Heap) (word map : ℕ) (strings : List (List ℕ)) → AreWritten old mid heap.top heap.next strings → Stored mid new (word - 1) (4 * map) → IsWithin new → word - 1 < heap.top
    → heap.top + 4 * texts_words strings ≤ 0x20000000 + 46137344 → IsEdited old new heap word map strings × Each AreBytes strings
