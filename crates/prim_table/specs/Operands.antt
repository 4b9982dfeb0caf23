-- What the words of a primitive's receiver and arguments stand for.
use Rattle.std.specs.Prelude.{◌≡◌, ℕ, nat_eq, Bool, true, false, List, Option, Some, None, slice_get, if◌then◌else◌}
use Rattle.self_terms.specs.declared.values.Value.{Value}
use Rattle.self_terms.specs.declared.values.Value.TheVariants as values
use Rattle.source_model.specs.declared.objects.Thing.{Thing}
use Rattle.source_model.specs.declared.objects.Thing.TheVariants.{Plain, Vector, Text}
use Rattle.object_maps.specs.declared.layout.Heap.{Heap}
use Rattle.object_maps.specs.declared.maps.SlotKind.{SlotKind}
use Rattle.object_maps.specs.Slots.{Slots, slots_in, slot_named}
use Rattle.object_maps.specs.Layout.{map_at}
use Rattle.sparc_store.specs.Words.{Words}
use Rattle.heap_cells.specs.Laying.{Cells}
use Rattle.heap_cells.specs.Source.{Made}
use Rattle.heap_cells.specs.Standing.{Places, IsValue}
use Rattle.heap_cells.specs.Heaps.{IsHeap}
use Rattle.prim_table.specs.declared.sorts.Sort.{Sort}
use Rattle.prim_table.specs.declared.sorts.Sort.TheVariants as sorts

-- a word that stands for a value, over a heap that stands for objects
pub record Operand (maps : List Slots) (mem : Words) (heap : Heap) (word : ℕ) : Type 0 where
  pub cells : Cells
  pub places : Places
  pub objects : List Thing
  pub made : List Made
  pub is : IsHeap maps mem heap cells places objects made
  pub value : Value
  pub stands : IsValue cells places value word

-- a word that stands for a vector of these elements
pub record VectorAt (maps : List Slots) (mem : Words) (heap : Heap) (word : ℕ) : Type 0 where
  pub cells : Cells
  pub places : Places
  pub objects : List Thing
  pub made : List Made
  pub is : IsHeap maps mem heap cells places objects made
  pub number : ℕ
  pub items : List Value
  pub at : slice_get places.objects number ≡ Some word
  pub was : slice_get objects number ≡ Some (Vector items)

-- a word that stands for a string of these bytes
pub record TextAt (maps : List Slots) (mem : Words) (heap : Heap) (word : ℕ) : Type 0 where
  pub cells : Cells
  pub places : Places
  pub objects : List Thing
  pub made : List Made
  pub is : IsHeap maps mem heap cells places objects made
  pub number : ℕ
  pub bytes : List ℕ
  pub at : slice_get places.objects number ≡ Some word
  pub was : slice_get objects number ≡ Some (Text bytes)

-- What sort of value a value is.
abbrev pub sort_of_thing : Option Thing → Sort
sort_of_thing (Some (Plain slots)) = sorts.Plain
sort_of_thing (Some (Vector items)) = sorts.Vector
sort_of_thing (Some (Text bytes)) = sorts.Text
sort_of_thing None = sorts.Plain

abbrev pub sort_of : List Thing → Value → Sort
sort_of objects (values.Int i) = sorts.Integer
sort_of objects (values.Object n) = sort_of_thing (slice_get objects n)
sort_of objects (values.Block body maker) = sorts.Block

abbrev pub sort_named : Option SlotKind → Sort
sort_named None = sorts.Plain
sort_named (Some k) = sorts.Block

-- the same of a word, by its map: integers, strings and vectors have the maps 0, 1 and 2; a block's map has a slot named 0
abbrev pub sort_at : List Slots → Words → ℕ → Sort
sort_at maps mem word =
    if nat_eq (map_at mem word) 0 then sorts.Integer
    else if nat_eq (map_at mem word) 1 then sorts.Text
    else if nat_eq (map_at mem word) 2 then sorts.Vector
    else sort_named (slot_named 0 (slots_in maps (map_at mem word)))

abbrev pub is_block_sort : Sort → Bool
is_block_sort sorts.Block = true
is_block_sort _ = false
