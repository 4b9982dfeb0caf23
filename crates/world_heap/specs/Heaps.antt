-- The heap of a world whose words were put into memory.
use Rattle.std.specs.Prelude.{◌≡◌, ℕ, ◌+◌, ◌*◌, Some, List, [], ◌∷◌, length, slice_get}
use Rattle.object_maps.specs.declared.layout.Heap.{Heap}
use Rattle.object_maps.specs.Slots.{slots_in}
use Rattle.object_maps.specs.Sound.{IsSound}
use Rattle.source_model.specs.Lookup.{holders, found_of, has_in, parents_of}
use Rattle.source_model.specs.declared.objects.Thing.{Thing}
use Rattle.sparc_store.specs.Words.{Words}
use Rattle.heap_cells.specs.Laying.{Cells}
use Rattle.heap_cells.specs.Standing.{Places, AreKinds}
use Rattle.heap_cells.specs.Heaps.{IsHeap}
use Rattle.heap_cells.specs.Numbers.{HasKin, kin, renamed, seen_of, word_in, has_at, parents_at}
use Rattle.world_build.specs.Worlds.{World}
use Rattle.world_heap.specs.Layout.{reference}
use Rattle.world_heap.specs.Images.{Image}

-- the references to objects from a number on
abbrev pub references_from : World → ℕ → List Thing → List ℕ
references_from w k [] = []
references_from w k (x ∷ xs) = reference w.things k ∷ references_from w (k + 1) xs

-- where the objects stand; nothing was called yet
abbrev pub places : World → Places
places w = record { objects = references_from w 0 w.things; contexts = [] }

-- behind the words is room, and the next object's number is how many there are
abbrev pub heap_of : Image → Heap
heap_of i = record { top = 0x20000000 + 4 * length i.words; next = length i.world.things }

-- The words of memory are a heap that stands for the world's objects, and integers, strings and vectors have the maps of their traits.
-- So maps and memory are sound for lookup, and a lookup over words finds what one over the objects by their numbers finds.
pub record HasHeap (i : Image) (mem : Words) : Type 0 where
  pub cells : Cells
  pub is : IsHeap i.maps mem (heap_of i) cells (places i.world) i.world.things []
  pub kin_of : HasKin i.maps cells (places i.world) i.world.core.strings i.world.core.vectors
  pub integers : AreKinds cells (places i.world) 0 (slots_in i.maps 0) (kin i.world.core.integers)
  pub sound : IsSound i.maps mem (places i.world).objects
  pub lookup : (name levels n w : ℕ) → slice_get (places i.world).objects n ≡ Some w
      → found_of (holders (has_at i.maps mem name) (parents_at i.maps mem) levels w [])
      ≡ renamed (word_in (places i.world)) (found_of (holders (has_in (seen_of i.world.core.strings i.world.core.vectors i.world.things) name) (parents_of (seen_of i.world.core.strings i.world.core.vectors i.world.things)) levels n []))
