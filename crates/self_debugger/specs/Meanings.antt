-- What a text means, where it means something.
use Rattle.std.specs.Prelude.{◌≡◌, ◌⊎◌}

-- one has it and no other, or none has it
pub record OneOrNone {A : Type 0} (Has : A → Type 0) : Type 0 where
  pub either : ((x : A) × Has x) ⊎ ((x : A) → ¬ Has x)
  pub one : (x y : A) → Has x → Has y → x ≡ y
