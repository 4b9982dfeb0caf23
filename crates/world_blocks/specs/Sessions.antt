-- The names and the maps of a session over a world.
use Rattle.std.specs.Prelude.{◌≡◌, ℕ, ◌+◌, ◌-◌, ◌≤◌, Option, None, Some, List, [], ◌∷◌, ◌++◌, length, slice_get, slice_index, codes}
use Rattle.self_terms.specs.declared.bodies.Body.{Body}
use Rattle.self_terms.specs.Names.{with_text}
use Rattle.object_maps.specs.declared.maps.SlotKind.TheVariants as kind
use Rattle.object_maps.specs.Slots.{Slots}
use Rattle.source_model.specs.Names.{number_of, evaluator}
use Rattle.world_build.specs.Worlds.{World}
use Rattle.world_heap.specs.Images.{Image}
use Rattle.world_heap.specs.Layout.{reference}

-- `lobby`, and the messages that evaluate blocks of up to five arguments
abbrev pub session_texts : List (List ℕ)
session_texts = codes "lobby" ∷ evaluator 0 ∷ evaluator 1 ∷ evaluator 2 ∷ evaluator 3 ∷ evaluator 4 ∷ evaluator 5 ∷ []

-- texts are given names, one after the other, where they have none yet
abbrev pub with_texts : List (List ℕ) → List (List ℕ) → List (List ℕ)
with_texts names [] = names
with_texts names (t ∷ ts) = with_texts (with_text names t) ts

-- the names of a session: those of the world, and behind them those of its texts that the world doesn't have
unfoldable pub session_names : World → List (List ℕ)
session_names w = with_texts w.names session_texts

-- the map of the blocks of a body: the method that evaluates one, and the parent of all blocks, in a slot whose name is no text's
abbrev pub block_map : List (List ℕ) → ℕ → ℕ → Body → Slots
block_map names traits b x = (number_of names (evaluator (length x.arguments)), kind.Method (record { 0 = b })) ∷ (0, kind.Parent traits) ∷ []

-- a body has one if it is a block's: there is a body around it
abbrev pub own_block_map : List (List ℕ) → ℕ → ℕ → Body → Option ℕ → List Slots
own_block_map names traits b x None = []
own_block_map names traits b x (Some outer) = block_map names traits b x ∷ []

-- those of the bodies from a number on, in their order
abbrev pub block_maps : List (List ℕ) → ℕ → ℕ → List Body → List Slots
block_maps names traits b [] = []
block_maps names traits b (x ∷ xs) = own_block_map names traits b x x.outer ++ block_maps names traits (b + 1) xs

-- the reference to the parent of all blocks
abbrev pub block_traits : World → ℕ
block_traits w = reference w.things w.core.blocks

-- the maps of a session: those of the world's objects, that of contexts, which has no slots, and those of blocks
abbrev pub session_maps : Image → List Slots
session_maps i = i.maps ++ [] ∷ block_maps (session_names i.world) (block_traits i.world) 1 i.world.bodies

-- the number of the map of contexts
abbrev pub contexts_map : Image → ℕ
contexts_map i = length i.maps

-- the numbers of the maps of bodies, the next map having this one; 0 for a method's
abbrev pub own_number : ℕ → Option ℕ → ℕ
own_number next None = 0
own_number next (Some outer) = next

abbrev pub number_behind : ℕ → Option ℕ → ℕ
number_behind next None = next
number_behind next (Some outer) = next + 1

abbrev pub numbers_from : ℕ → List Body → List ℕ
numbers_from next [] = []
numbers_from next (x ∷ xs) = own_number next x.outer ∷ numbers_from (number_behind next x.outer) xs

-- by the number of the body, the first body's first
abbrev pub block_numbers : Image → List ℕ
block_numbers i = numbers_from (length i.maps + 1) i.world.bodies

-- the number of the map of a body's blocks
abbrev pub blocks_map : Image → ℕ → ℕ
blocks_map i b = slice_index (block_numbers i) (b - 1)

-- a world with the names of a session, and its image with the maps of a session
abbrev pub session_world : World → World
session_world w = record w { names = session_names w }

abbrev pub session_image : Image → Image
session_image i = record i { maps = session_maps i }

-- no body has more than five arguments, so that each block is evaluated by a message with a name
abbrev pub HasFewArguments : World → Type 0
HasFewArguments w = (k : ℕ) (x : Body) → slice_get w.bodies k ≡ Some x → length x.arguments ≤ 5
