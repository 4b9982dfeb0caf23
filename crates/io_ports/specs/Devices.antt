-- The devices in memory, as their users see them.
use Rattle.std.specs.Prelude.{ℕ, ◌+◌, List, ◌++◌, length, nat_le, nat_eq, Option, Some, None, option_and_then, if◌then◌else◌}
use Rattle.std.specs.Cmp.Lexicographic.{pointwise}
use Rattle.io_ports.specs.Causes.{next_count}

-- A source: the bytes that are left, the numbers of the calls that fail, counted from 1, how many calls were made, and
-- how many of them failed.
pub record SourceState : Type 0 where
  pub left : List ℕ
  pub fails : List ℕ
  pub calls : ℕ
  pub faults : ℕ

-- A sink: the bytes that it took, how many it can take in all, and the calls as for a source.
pub record SinkState : Type 0 where
  pub taken : List ℕ
  pub room : ℕ
  pub fails : List ℕ
  pub calls : ℕ
  pub faults : ℕ

-- A sink that never fails: the bytes that it took, until a piece came that was longer than the room left.
pub record SureSinkState : Type 0 where
  pub taken : Option (List ℕ)
  pub room : ℕ

-- What it holds after a piece: the piece behind the others where all fit, and nothing from the first that doesn't on.
abbrev pub taken_within : ℕ → Option (List ℕ) → List ℕ → Option (List ℕ)
taken_within room taken piece =
    option_and_then (λ bytes. if nat_le (length bytes + length piece) room then Some (bytes ++ piece) else None) taken

-- Files: each one's name and bytes, a count of faults for each and a last one for all names that aren't there, and the
-- calls as for a source, over all names.
pub record FilesState : Type 0 where
  pub files : List (List ℕ × List ℕ)
  pub faults : List ℕ
  pub fails : List ℕ
  pub calls : ℕ

-- Two counts of faults, one for this name and one for all others.
pub record NameCounts : Type 0 where
  pub name : List ℕ
  pub faults : ℕ
  pub other_faults : ℕ

-- The count of a name.
abbrev pub count_for : NameCounts → List ℕ → ℕ
count_for counts name = if pointwise nat_eq name counts.name then counts.faults else counts.other_faults

-- The counts after a fault of a name.
abbrev pub raised_for : NameCounts → List ℕ → NameCounts
raised_for counts name =
    if pointwise nat_eq name counts.name
    then record counts { faults = next_count counts.faults }
    else record counts { other_faults = next_count counts.other_faults }
