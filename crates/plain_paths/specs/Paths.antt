-- Paths over the words of a running program.
use Rattle.std.specs.Prelude.{ℕ, ◌+◌, ◌*◌, ◌%◌, ◌==◌, nat_eq, nat_le, Bool, ◌&&◌, ◌||◌, is_none, if◌then◌else◌, List, [], ◌∷◌, fold, Option, Some, None, option_and_then}
use Rattle.self_terms.specs.declared.names.Name.{Name}
use Rattle.self_terms.specs.declared.values.Value.{Value}
use Rattle.self_terms.specs.declared.values.Datum.{Datum}
use Rattle.self_terms.specs.declared.values.Datum.TheVariants as datum
use Rattle.self_terms.specs.Words.{int_of}
use Rattle.object_maps.specs.declared.layout.Heap.{Heap}
use Rattle.object_maps.specs.declared.maps.SlotKind.{SlotKind}
use Rattle.object_maps.specs.declared.maps.SlotKind.TheVariants as kind
use Rattle.object_maps.specs.Slots.{Slots, slots_in, slot_named}
use Rattle.object_maps.specs.Layout.{map_at, number_at}
use Rattle.sparc_store.specs.Words.{Words, word_at}
use Rattle.heap_cells.specs.Laying.{Cells}
use Rattle.heap_cells.specs.Source.{Thing, Made}
use Rattle.heap_cells.specs.Standing.{Places, IsValue}
use Rattle.heap_cells.specs.Heaps.{IsHeap}
use Rattle.plain_paths.specs.declared.slots.OwnSlot.{OwnSlot}
use Rattle.plain_paths.specs.declared.slots.OwnSlot.TheVariants as own

-- the word stands for a value, over a heap that stands for objects
pub record IsOfHeap (maps : List Slots) (mem : Words) (word : ℕ) : Type 0 where
  pub heap : Heap
  pub cells : Cells
  pub places : Places
  pub things : List Thing
  pub made : List Made
  pub is : IsHeap maps mem heap cells places things made
  pub value : Value
  pub stands : IsValue cells places value word

-- whether a map is that of plain objects: integers, strings and vectors have the maps 0, 1 and 2, and a block's map has a slot named 0
abbrev pub is_plain : List Slots → ℕ → Bool
is_plain maps map = nat_le 3 map && is_none (slot_named 0 (slots_in maps map))

-- the slot of a name in a map; nothing but plain objects has own slots
abbrev pub plain_slot : List Slots → ℕ → ℕ → Option SlotKind
plain_slot maps map name = if is_plain maps map then slot_named name (slots_in maps map) else None

-- What a slot of an object holds. The content of an assignable slot stands in the object itself.
abbrev pub held_by : Words → ℕ → Option SlotKind → OwnSlot
held_by mem word None = own.Missing
held_by mem word (Some (kind.Constant content)) = own.Data content
held_by mem word (Some (kind.Field place)) = own.Data (word_at mem (word + 7 + 4 * place))
held_by mem word (Some (kind.Assign place)) = own.Assignment
held_by mem word (Some (kind.Parent to)) = own.Data to
held_by mem word (Some (kind.Method body)) = own.Method body

-- what the own slot of a name of a word's value holds
abbrev pub own_at : List Slots → Words → ℕ → ℕ → OwnSlot
own_at maps mem word name = held_by mem word (plain_slot maps (map_at mem word) name)

abbrev pub data_of : OwnSlot → Option ℕ
data_of own.Missing = None
data_of (own.Method body) = None
data_of (own.Data word) = Some word
data_of own.Assignment = None

-- one name further
abbrev pub further : List Slots → Words → Option ℕ → ℕ → Option ℕ
further maps mem from name = option_and_then (λ word. data_of (own_at maps mem word name)) from

-- the first name names a slot of the lobby; `lobby` is the lobby itself
abbrev pub root : List Slots → Words → ℕ → ℕ → ℕ → Option ℕ
root maps mem lobby lobby_name name = if name == lobby_name then Some lobby else further maps mem (Some lobby) name

-- the word at a path
abbrev pub word_at_path : List Slots → Words → ℕ → ℕ → List ℕ → Option ℕ
word_at_path maps mem lobby lobby_name [] = None
word_at_path maps mem lobby lobby_name (name ∷ path) = fold (further maps mem) (root maps mem lobby lobby_name name) path

abbrev pub name_number : Name → ℕ
name_number name = name.0

-- what is no integer: a string, whose map is 1, or a plain object
abbrev pub object_datum : List Slots → ℕ → ℕ → Option Datum
object_datum maps map number = if nat_eq map 1 || is_plain maps map then Some (datum.Object number) else None

-- what a word stands for, as a text could say it; no vector and no block
abbrev pub datum_of : List Slots → Words → ℕ → Option Datum
datum_of maps mem word = if nat_eq (word % 4) 0 then Some (datum.Integer (int_of word)) else object_datum maps (map_at mem word) (number_at mem word)
