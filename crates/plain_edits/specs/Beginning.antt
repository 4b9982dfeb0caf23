-- What a session knows of the maps of blocks where it begins.
use Rattle.std.specs.Prelude.{◌≡◌}
use Rattle.sparc_store.specs.Words.{Words}
use Rattle.plain_runs.specs.Host.{Host}
use Rattle.world_blocks.specs.Sessions.{session_maps, block_numbers}
use Rattle.world_heap.specs.Heaps.{HasHeap}
use Rattle.world_heap.specs.Images.{Image}
use Rattle.world_heap.specs.Stands.{Stands}
use Rattle.plain_edits.specs.Edits.{KnowsBlocks}

-- A host with the maps of a session over a world, and with its bodies and the numbers of their maps, knows the maps of blocks.
abbrev pub SessionsKnowBlocks : Type 0
SessionsKnowBlocks = (i : Image) (mem : Words) (h : Host) → Stands i → HasHeap i mem → h.maps ≡ session_maps i → h.references.blocks ≡ block_numbers i → h.bodies ≡ i.world.bodies → KnowsBlocks h
