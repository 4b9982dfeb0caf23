-- What the code's functions give on the way. Used by contracts of private functions alone.
use Rattle.std.specs.Prelude.{◌≡◌, ℕ, ◌<◌, ◌≤◌, List, length, slice_index}
use Rattle.source_model.specs.Names.{number_of, evaluator}

-- the numbers of the messages that evaluate blocks of up to five arguments
pub record AreEvaluators (names : List (List ℕ)) (numbers : List ℕ) : Type 0 where
  pub six : length numbers ≡ 6
  pub number : (k : ℕ) → k ≤ 5 → slice_index numbers k ≡ number_of names (evaluator k)
  pub given : (k : ℕ) → k ≤ 5 → 0 < slice_index numbers k
