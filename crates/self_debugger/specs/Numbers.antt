-- Numbers in decimal notation.
use Rattle.std.specs.Prelude.{ℕ, ◌+◌, ◌-◌, ◌*◌, ◌&&◌, ◌||◌, List, length, slice_index, Bool, not, nat_eq, nat_lt, IsTrue, fold}
use Rattle.std.specs.List.{list_all}
use Rattle.std.specs.Char.{is_ascii_digit}

-- no byte but digits
abbrev pub AreDigits : List ℕ → Type 0
AreDigits text = IsTrue (list_all is_ascii_digit text)

-- the number that digits stand for; leading zeros don't change it
abbrev pub number : List ℕ → ℕ
number ds = fold (λ v d. 10 * v + (d - 48)) 0 ds

-- one digit or more, without leading zeros
abbrev pub is_plain : List ℕ → Bool
is_plain text = nat_lt 0 (length text) && list_all is_ascii_digit text && (not (nat_eq (slice_index text 0) 48) || nat_eq (length text) 1)
