-- What a session over a world knows where it begins.
use Rattle.std.specs.Prelude.{◌≡◌, ◌≢◌, ℕ, ◌<◌, ◌≤◌, Some, List, [], length, slice_get}
use Rattle.self_terms.specs.Names.{HasEachOnce, text_of}
use Rattle.object_maps.specs.Slots.{Slots, slots_in}
use Rattle.source_model.specs.Names.{number_of}
use Rattle.source_model.specs.Soundness.{body_in, HasBody}
use Rattle.sparc_store.specs.Words.{Words}
use Rattle.heap_cells.specs.Shapes.{Block}
use Rattle.heap_cells.specs.Heaps.{IsTold}
use Rattle.frame_walk.specs.Raw.{Raw}
use Rattle.world_build.specs.Wholeness.{IsWhole}
use Rattle.world_build.specs.Worlds.{World}
use Rattle.world_heap.specs.Heaps.{HasHeap}
use Rattle.world_heap.specs.Images.{Image}
use Rattle.world_heap.specs.Stands.{Stands}
use Rattle.world_state.specs.Begun.{begun}
use Rattle.world_begins.specs.Fresh.{BeginsCore, IsFresh}
use Rattle.world_blocks.specs.Sessions.{session_texts, session_names, session_image, session_maps, contexts_map, blocks_map}

-- The names of the world are the session's, each text of the session's own has a name, and no text has two if none has two in the world.
pub record NamesWorld (w : World) : Type 0 where
  pub texts : (n : ℕ) (text : List ℕ) → text_of w.names n ≡ Some text → text_of (session_names w) n ≡ Some text
  pub numbers : (text : List ℕ) → number_of w.names text ≢ 0 → number_of (session_names w) text ≡ number_of w.names text
  pub own : (k : ℕ) (text : List ℕ) → slice_get session_texts k ≡ Some text → number_of (session_names w) text ≢ 0
  pub once : HasEachOnce w.names → HasEachOnce (session_names w)

abbrev pub SessionsHaveNames : Type 0
SessionsHaveNames = (w : World) → NamesWorld w

-- A cell with this map is a block of this body.
pub record IsMapOf (maps : List Slots) (b map : ℕ) : Type 0 where
  pub within : map < length maps
  pub told : (context receiver : ℕ) → IsTold maps (Block map b context receiver)

-- The map of contexts is there, and that of the blocks of each body.
pub record HasBlockMaps (i : Image) (maps : List Slots) : Type 0 where
  pub contexts : contexts_map i < length maps
  pub bare : slots_in maps (contexts_map i) ≡ []
  pub blocks : (b outer : ℕ) → HasBody i.world.bodies b → (body_in i.world.bodies b).outer ≡ Some outer → IsMapOf maps b (blocks_map i b)

abbrev pub BlocksHaveMaps : Type 0
BlocksHaveMaps = (i : Image) → 3 ≤ length i.maps → HasBlockMaps i (session_maps i)

-- The world's heap stands also behind the maps of a session.
abbrev pub HeapsKnowBlocks : Type 0
HeapsKnowBlocks = (i : Image) (mem : Words) → IsWhole i.world → HasHeap i mem → HasHeap (session_image i) mem

-- Over a world whose maps and words stand for its objects, and whose words were put into memory, a raw state without activities and with the
-- maps of a session stands for the state with which a session begins, named as a session does.
abbrev pub SessionsBegin : Type 0
SessionsBegin = (i : Image) (mem : Words) (r : Raw) (advisors : ℕ) → Stands i → IsWhole i.world → HasHeap i mem → IsFresh (session_image i) mem r → BeginsCore i r (begun i.world (session_names i.world) advisors)
