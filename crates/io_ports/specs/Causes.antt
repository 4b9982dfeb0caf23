-- When a call may fail, and what a sink has taken.
use Rattle.std.specs.Prelude.{◌≡◌, ℕ, ◌+◌, ◌-◌, ◌^◌, ◌≤◌, min, List, [], ◌++◌, length, take, Option, Some, None, Result, OnErr, MatchResult}

-- A count of faults is higher than before, or stands at the last value of a 64-bit counter.
abbrev pub Rose : ℕ → ℕ → Type 0
Rose before now = min (before + 1) (2 ^ 64 - 1) ≤ now

-- The count never falls, and a failed call raised it.
pub record HasCause {T E : Type 0} (before now : ℕ) (result : Result T E) : Type 0 where
  pub later : before ≤ now
  pub failed : OnErr result (Rose before now)

-- A sink that tells now told before, and has taken these bytes since. Of one that doesn't tell now nothing is said.
abbrev pub Takes : Option (List ℕ) → Option (List ℕ) → List ℕ → Type 0
Takes old None bytes = Unit {0}
Takes None (Some ys) bytes = ⊥
Takes (Some xs) (Some ys) bytes = ys ≡ xs ++ bytes

-- A write that answers n takes the first n bytes of the piece, and a failed one nothing.
abbrev pub WriteTakes : {E : Type 0} → Option (List ℕ) → Option (List ℕ) → Result ℕ E → List ℕ → Type 0
WriteTakes old new result piece = MatchResult result (λ n. Takes old new (take n piece)) (λ _. Takes old new [])

-- Some front of these bytes was taken.
abbrev pub TakesFront : Option (List ℕ) → Option (List ℕ) → List ℕ → Type 0
TakesFront old new bytes = (n : ℕ) × (n ≤ length bytes) × Takes old new (take n bytes)

-- The number after this one; a 64-bit counter stays at its last value.
abbrev pub next_count : ℕ → ℕ
next_count n = min (n + 1) (2 ^ 64 - 1)

-- A count that each failed call raises, and no other call.
abbrev pub CountsFault : {T E : Type 0} → ℕ → ℕ → Result T E → Type 0
CountsFault before now result = MatchResult result (λ _. now ≡ before) (λ _. now ≡ next_count before)
