-- Where a session over a world begins.
use Rattle.std.specs.Prelude.{◌≡◌, [], length}
use Rattle.object_maps.specs.Sound.{IsSound}
use Rattle.source_model.specs.State.{State}
use Rattle.sparc_store.specs.Words.{Words}
use Rattle.frame_walk.specs.Raw.{Raw}
use Rattle.raw_steps.specs.Meeting.{HasCore}
use Rattle.raw_steps.specs.Stands.{Sense, Stands}
use Rattle.world_heap.specs.Heaps.{places, heap_of}
use Rattle.world_heap.specs.Images.{Image}

-- no activity, nothing counted, and the world's maps, heap and words; what memory holds outside the heap is left open
pub record IsFresh (i : Image) (mem : Words) (r : Raw) : Type 0 where
  pub maps : r.maps ≡ i.maps
  pub words : r.mem.heap ≡ mem.heap
  pub heap : r.heap ≡ heap_of i
  pub threads : r.threads ≡ []
  pub current : r.current ≡ 0
  pub steps : r.steps ≡ 0
  pub cost : r.cost ≡ 0

-- The raw state stands for the state, with the world's objects at their places; the maps say what the source says of integers, strings,
-- vectors and blocks; and lookups with room for all objects may read maps and words.
pub record BeginsCore (i : Image) (r : Raw) (s : State) : Type 0 where
  pub sense : Sense
  pub stands : Stands sense r s
  pub objects : sense.places.objects ≡ (places i.world).objects
  pub core : HasCore r s sense
  pub sound : IsSound r.maps r.mem sense.places.objects
  pub room : length sense.places.objects ≡ length s.things
