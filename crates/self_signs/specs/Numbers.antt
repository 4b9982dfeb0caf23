-- What the code says of numbers that texts were given. Used by contracts of private functions alone: no public clause cites it.
use Rattle.std.specs.Prelude.{◌≡◌, ◌≤◌, ℕ, List, ◌++◌, length}
use Rattle.self_signs.specs.Signs.{number_of}

-- What the names show of the numbers of texts stays so, whichever names come behind them.
abbrev pub Lasts : List (List ℕ) → ((List ℕ → ℕ) → Type 0) → Type 0
Lasts names shows = (more : List (List ℕ)) → shows (number_of (names ++ more))

-- Names were given to at most so many texts more.
abbrev pub Grows : ℕ → List (List ℕ) → List (List ℕ) → Type 0
Grows n old new = (more : List (List ℕ)) × (new ≡ old ++ more) × (length more ≤ n)
