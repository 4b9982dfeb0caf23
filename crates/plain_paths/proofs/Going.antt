-- A path, name by name.
use Rattle.std.proofs.Common.{◌≡◌, refl, ℕ, zero, suc, ◌+◌, ◌<◌, List, [], ◌∷◌, length, map, drop, get_or, arith, add-one}
use Rattle.std.specs.Prelude.{Option, fold}
use Rattle.self_terms.specs.declared.names.Name.{Name}
use Rattle.object_maps.specs.Slots.{Slots}
use Rattle.sparc_store.specs.Words.{Words}
use Rattle.plain_paths.specs.Paths.{further, root, word_at_path, name_number}

module _ (maps : List Slots) (mem : Words) where
  -- where the names from a place on lead
  abbrev pub rest : Option ℕ → List Name → ℕ → Option ℕ
  rest from path at = fold (further maps mem) from (map name_number (drop at path))

  pub begun : (lobby lobby_name : ℕ) (path : List Name) (any : Name) → 0 < length path → rest (root maps mem lobby lobby_name (get_or path 0 any).0) path 1 ≡ word_at_path maps mem lobby lobby_name (map name_number path)
  begun lobby lobby_name [] any lt = absurd (omega arith)
  begun lobby lobby_name (name ∷ path) any lt = refl

  after : (path : List Name) (at : ℕ) (any : Name) (from : Option ℕ) → at < length path → rest (further maps mem from (get_or path at any).0) path (suc at) ≡ rest from path at
  after [] at any from lt = absurd (omega arith)
  after (name ∷ path) zero any from lt = refl
  after (name ∷ path) (suc at) any from lt = after path at any from (omega arith)

  pub gone_on : (path : List Name) (at : ℕ) (any : Name) (from : Option ℕ) → at < length path → rest (further maps mem from (get_or path at any).0) path (at + 1) ≡ rest from path at
  gone_on path at any from lt = rw add-one (after path at any from lt)

  pub ended : (path : List Name) (at : ℕ) (from : Option ℕ) → length path < at + 1 → rest from path at ≡ from
  ended [] zero from lt = refl
  ended [] (suc at) from lt = refl
  ended (name ∷ path) zero from lt = absurd (omega arith)
  ended (name ∷ path) (suc at) from lt = ended path at from (omega arith)
