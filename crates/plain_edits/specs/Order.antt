-- The references to objects, read off the cells of the heap in their order.
use Rattle.std.specs.Prelude.{◌≡◌, ℕ, ◌+◌, ◌*◌, List, [], ◌∷◌, ◌++◌, length, Option, Some, None}
use Rattle.object_maps.specs.declared.layout.Heap.{Heap}
use Rattle.object_maps.specs.Slots.{Slots}
use Rattle.sparc_store.specs.Words.{Words}
use Rattle.heap_cells.specs.Shapes.{Cell, Plain, Vector, Text, Block, Context, size}
use Rattle.heap_cells.specs.Laying.{Cells, cell_at}
use Rattle.heap_cells.specs.Source.{Thing, Made}
use Rattle.heap_cells.specs.Standing.{Places}
use Rattle.heap_cells.specs.Heaps.{IsHeap}

-- the number of an object's cell; blocks and contexts have none
abbrev pub number_in : Cell → Option ℕ
number_in (Plain number map fields) = Some number
number_in (Vector number elements) = Some number
number_in (Text number bytes) = Some number
number_in (Block map body context receiver) = None
number_in (Context map outer mark receiver values) = None

-- the numbers of cells that have one, in their order
abbrev pub own : Option ℕ → List ℕ
own None = []
own (Some number) = number ∷ []

abbrev pub numbers_in : List Cell → List ℕ
numbers_in [] = []
numbers_in (c ∷ cs) = own (number_in c) ++ numbers_in cs

-- the references to them, where the cells stand one behind the other from an address on
abbrev pub own_reference : ℕ → Option ℕ → List ℕ
own_reference at None = []
own_reference at (Some number) = (at + 1) ∷ []

abbrev pub references_in : ℕ → List Cell → List ℕ
references_in at [] = []
references_in at (c ∷ cs) = own_reference at (number_in c) ++ references_in (at + 4 * size c) cs

-- these are the numbers from one on, in order
abbrev pub AreInOrder : ℕ → List ℕ → Type 0
AreInOrder n [] = Unit {0}
AreInOrder n (k ∷ ks) = (k ≡ n) × AreInOrder (n + 1) ks

-- Where the cells of a heap have the numbers from 0 on in order, as many as there are objects, the references to these cells are those to the objects.
abbrev pub ObjectsInOrder : Type 0
ObjectsInOrder =
    (maps : List Slots) (mem : Words) (heap : Heap) (h : Cells) (p : Places) (things : List Thing) (made : List Made) → IsHeap maps mem heap h p things made
    → (cells : List Cell) → h ≡ cell_at 0x20000000 cells → AreInOrder 0 (numbers_in cells) → length (numbers_in cells) ≡ heap.next → p.objects ≡ references_in 0x20000000 cells
