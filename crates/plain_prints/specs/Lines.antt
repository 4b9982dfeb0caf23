-- Lines by the words of values, and what a sink has taken of them.
use Rattle.std.specs.Prelude.{◌≡◌, ℕ, zero, suc, ◌+◌, ◌/◌, List, [], ◌∷◌, ◌++◌, Option}
use Rattle.io_ports.specs.Causes.{Takes, TakesFront}
use Rattle.self_terms.specs.declared.values.Value.{Value}
use Rattle.sparc_store.specs.Words.{Words, word_at, byte_at}
use Rattle.object_maps.specs.declared.layout.Heap.{Heap}
use Rattle.object_maps.specs.Slots.{Slots}
use Rattle.source_model.specs.declared.objects.Thing.{Thing}
use Rattle.source_model.specs.Primitives.{string_print, int_print, thing_in}
use Rattle.heap_cells.specs.Heaps.{IsHeap}
use Rattle.heap_cells.specs.Laying.{Cells}
use Rattle.heap_cells.specs.Source.{Made}
use Rattle.heap_cells.specs.Standing.{Places, IsValue}
use Rattle.plain_prims.specs.Performing.{printed_by}

-- the bytes of memory from an address on, so many
abbrev pub bytes_from : Words → ℕ → ℕ → List ℕ
bytes_from mem at zero = []
bytes_from mem at (suc n) = byte_at mem at ∷ bytes_from mem (at + 1) n

-- the bytes of a string, by its words
abbrev pub text_in : Words → ℕ → List ℕ
text_in mem word = bytes_from mem (word + 11) (word_at mem (word + 7) / 4)

-- What is printed of a word as a string, and as an integer, whatever it stands for.
abbrev pub TextSays : List Slots → Words → ℕ → List ℕ → Type 0
TextSays maps mem word line =
    (heap : Heap) (cells : Cells) (places : Places) (things : List Thing) (made : List Made) (v : Value) → IsHeap maps mem heap cells places things made → IsValue cells places v word → printed_by (string_print (thing_in things v)) ≡ line

abbrev pub IntSays : ℕ → List ℕ → Type 0
IntSays word line =
    (maps : List Slots) (mem : Words) (heap : Heap) (cells : Cells) (places : Places) (things : List Thing) (made : List Made) (v : Value) → IsHeap maps mem heap cells places things made → IsValue cells places v word → printed_by (int_print v) ≡ line

-- a sink has taken the line that is meant, or a front of it
pub record Line (Is : List ℕ → Type 0) (old new : Option (List ℕ)) : Type 0 where
  pub line : List ℕ
  pub is : Is line
  pub takes : Takes old new line

pub record Front (Is : List ℕ → Type 0) (old new : Option (List ℕ)) : Type 0 where
  pub line : List ℕ
  pub is : Is line
  pub takes : TakesFront old new line

-- a sink has taken a front of some bytes, and these are the rest
pub record IsSent (old new : Option (List ℕ)) (rest bytes : List ℕ) : Type 0 where
  pub sent : List ℕ
  pub took : Takes old new sent
  pub whole : sent ++ rest ≡ bytes
