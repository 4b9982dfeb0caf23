-- The words after the program's name, and what they ask for.
use Rattle.std.specs.Prelude.{◌≡◌, ◌≢◌, ℕ, ◌<◌, ◌≤◌, List, [], ◌∷◌, codes, decimal}

-- what accepted words ask for; RunWorld and CheckWorld have the name of the world file
pub data Job : Type 0 where
  RunWorld : List ℕ → Job
  CheckWorld : List ℕ → Job
  RunDrill : ℕ → Job

-- a name of a file isn't empty and doesn't begin with a minus sign
abbrev pub IsFileName : List ℕ → Type 0
IsFileName [] = ⊥
IsFileName (b ∷ bs) = b ≢ 45

-- two words ask for it; a drill has a number from 1 to 4000, without leading zeros
abbrev pub Asks : List (List ℕ) → Job → Type 0
Asks words (RunWorld name) = (words ≡ codes "run" ∷ name ∷ []) × IsFileName name
Asks words (CheckWorld name) = (words ≡ codes "check" ∷ name ∷ []) × IsFileName name
Asks words (RunDrill n) = (words ≡ codes "drill" ∷ decimal n ∷ []) × (0 < n) × (n ≤ 4000)
