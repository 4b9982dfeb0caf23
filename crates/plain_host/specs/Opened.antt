-- The host of a world's image, before any activity.
use Rattle.std.specs.Prelude.{◌≡◌, ◌≢◌, ◌⊎◌, ℕ, ◌<◌, ◌≤◌, [], ◌∷◌, length, replicate, slice_index}
use Rattle.sparc_insn.specs.declared.insn.Insn.TheVariants.{Trap}
use Rattle.sparc_store.specs.Words.{Words, word_at}
use Rattle.sparc_machine.specs.State.{opened, put}
use Rattle.world_heap.specs.Images.{Image}
use Rattle.world_heap.specs.Heaps.{places, heap_of, HasHeap}
use Rattle.world_blocks.specs.Sessions.{session_maps, contexts_map, block_numbers}
use Rattle.plain_words.specs.declared.references.References.{References}
use Rattle.plain_words.specs.Going.{At}
use Rattle.plain_runs.specs.Host.{Host}
use Rattle.plain_runs.specs.Sound.{ending_stub}

-- the references to the world's objects, and to its nil; and the maps that a session has for contexts and blocks
abbrev pub references_of : Image → References
references_of i = record {
  objects = (places i.world).objects;
  nil = slice_index (places i.world).objects i.world.core.nil;
  contexts = contexts_map i;
  blocks = block_numbers i;
}

-- the host over a memory, with the maps of a session over the world: no body has a unit, and there is no activity
abbrev pub opened_host : Image → Words → Host
opened_host i memory = record {
  machine = put (opened memory) 6 (heap_of i).top;
  maps = session_maps i;
  next = (heap_of i).next;
  bodies = i.world.bodies;
  references = references_of i;
  entries = replicate (length i.world.bodies) 0;
  points = [];
  statuses = [];
  current = 0;
  steps = 0;
  cost = 0;
}

-- In memory stand the words of the world's objects and the ending stub, and all of the plain cost is left to pay; every other word is 0.
pub record IsLoaded (i : Image) (memory : Words) : Type 0 where
  pub heap : HasHeap i memory
  pub stub : At memory ending_stub (Trap 9 ∷ [])
  pub left : word_at memory 0x30000004 ≡ 4194304
  pub others : (b : ℕ) → b ≢ ending_stub → b ≢ 0x30000004 → (b < 0x20000000) ⊎ ((heap_of i).top ≤ b) → word_at memory b ≡ 0
