-- A session over an opened world begins.
use Rattle.std.specs.Prelude.{◌≡◌, ℕ, ◌≤◌, true, List, length, replicate}
use Rattle.self_terms.specs.declared.bodies.Body.{Body}
use Rattle.sparc_store.specs.Words.{Words, IsWithin}
use Rattle.source_model.specs.Formed.{IsWellFormed}
use Rattle.source_model.specs.Soundness.{body_in}
use Rattle.plain_runs.specs.Sound.{IsRunnable}
use Rattle.plain_steps.specs.Steps.{NamesSums}
use Rattle.plain_turns.specs.Rooms.{unput}
use Rattle.plain_turns.specs.Resting.{Rests}
use Rattle.plain_host.specs.Opened.{opened_host, IsLoaded}
use Rattle.world_blocks.specs.Sessions.{session_names, HasFewArguments}
use Rattle.world_build.specs.Wholeness.{IsWhole}
use Rattle.world_build.specs.Worlds.{World}
use Rattle.world_heap.specs.Built.{IsModest}
use Rattle.world_heap.specs.Images.{Image}
use Rattle.world_heap.specs.Stands.{Stands}
use Rattle.world_state.specs.Begun.{begun}
use Rattle.world_test.specs.Further.{starts_fixed}

-- the most words that units of all these bodies take
abbrev pub all_words : List Body → ℕ
all_words xs = unput (replicate (length xs) 0) xs

-- Plain code runs each body of the world, over its objects; there is room in the code region for units of all; and no body has more than five
-- arguments.
pub record CanOpen (w : World) : Type 0 where
  pub runs : (b : ℕ) → IsRunnable (length w.things) (body_in w.bodies b)
  pub room : all_words w.bodies ≤ 8388352
  pub few : HasFewArguments w

-- Over a memory in which the world's objects and the ending stub stand, with all of the plain cost left to pay and nothing else, the host without units
-- and activities rests for the state with which a session begins, named as a session is, where that is well formed and has the names of sums and
-- differences.
abbrev pub WorldsOpen : Type 0
WorldsOpen =
    (i : Image) (memory : Words) (advisors : ℕ) → Stands i → IsModest i.world → IsWhole i.world → IsLoaded i memory → IsWithin memory → CanOpen i.world → IsWellFormed (begun i.world (session_names i.world) advisors) → NamesSums (session_names i.world)
    → Rests (opened_host i memory) (begun i.world (session_names i.world) advisors)

-- Names that start with the two fixed ones have those of sums and differences.
abbrev pub FixedNamesSum : Type 0
FixedNamesSum = (names : List (List ℕ)) → starts_fixed names ≡ true → NamesSums names
