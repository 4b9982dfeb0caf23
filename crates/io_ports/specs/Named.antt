-- What a read at a place of a named file gives.
use Rattle.std.specs.Prelude.{◌≡◌, ℕ, ◌<◌, ◌≤◌, List, [], length, take, drop, Option, Some, None, Result, IfOk, nat_eq, position, unwrap_or, slice_get, slice_index, slice_set}
use Rattle.std.specs.Option.{option_map}
use Rattle.std.specs.Cmp.Lexicographic.{pointwise}
use Rattle.io_ports.specs.Causes.{next_count}

-- A read that answers n gives the n bytes of the name from the place on, and 0 only at the end or with no room.
abbrev pub ReadsAt : {E : Type 0} → Option (List ℕ) → ℕ → Result ℕ E → List ℕ → Type 0
ReadsAt None at result into = Unit {0}
ReadsAt (Some bytes) at result into = IfOk result (λ n. (take n (drop at bytes) ≡ take n into) × (n ≤ length (drop at bytes)) × (n ≡ 0 → 0 < length into → drop at bytes ≡ []))

-- The place of the first file of this name, or the number of files where there is none.
abbrev pub place_named : List (List ℕ × List ℕ) → List ℕ → ℕ
place_named files name = unwrap_or (position (λ file. pointwise nat_eq file.0 name) files) (length files)

-- The bytes of the first file of this name.
abbrev pub bytes_named : List (List ℕ × List ℕ) → List ℕ → Option (List ℕ)
bytes_named files name = option_map (λ file. file.1) (slice_get files (place_named files name))

-- The count at the place of this name.
abbrev pub count_named : List (List ℕ × List ℕ) → List ℕ → List ℕ → ℕ
count_named files counts name = slice_index counts (place_named files name)

-- The counts after a fault of the file at this place.
abbrev pub raised_at : List ℕ → ℕ → List ℕ
raised_at counts place = slice_set counts place (next_count (slice_index counts place))
