-- What was read so far of an edit's text, as the definition has it. Used by contracts of private functions alone.
use Rattle.std.specs.Prelude.{◌≡◌, ℕ, zero, suc, ◌+◌, Option, None, Some, List, ◌++◌, ◌∷◌, [], length, map, slice_get, slice_set}
use Rattle.world_build.specs.SlotParts.{built_of}
use Rattle.world_build.specs.SlotTexts.{Told, initials_of}
use Rattle.source_model.specs.Edits.{Initial}
use Rattle.slot_text.specs.declared.contents.InitialTold.{InitialTold}
use Rattle.slot_text.specs.declared.contents.Kept.{Kept}
use Rattle.slot_text.specs.declared.teller.Teller.{Teller}
use Rattle.slot_text.specs.Contents.{initial}

abbrev pub kept_by : Kept → ℕ × Initial
kept_by x = (x.body, initial x.initial)

abbrev pub shown : Teller → Told
shown s = record { loading = built_of s.names s.strings s.bodies s.around s.code s.waiting s.size; held = initial s.held; initials = map kept_by s.kept.items; name = s.name }

-- Rows: for each body, from the first, what its locals hold.

abbrev pub change_row : InitialTold → Option (List InitialTold) → List (List InitialTold) → ℕ → List (List InitialTold)
change_row x None rows at = rows
change_row x (Some row) rows at = slice_set rows at (row ++ x ∷ [])

-- one content more in the row of a body
abbrev pub given_to : ℕ → InitialTold → List (List InitialTold) → List (List InitialTold)
given_to zero x rows = rows
given_to (suc n) x rows = change_row x (slice_get rows n) rows n

-- The rows of so many bodies have all that these locals hold.
pub record AreRows (count : ℕ) (all : List (ℕ × Initial)) (rows : List (List InitialTold)) : Type 0 where
  pub many : length rows ≡ count
  pub each : (n : ℕ) (row : List InitialTold) → slice_get rows n ≡ Some row → map initial row ≡ initials_of (n + 1) all
