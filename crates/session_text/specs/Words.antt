-- The words of a line.
use Rattle.std.specs.Prelude.{ℕ, ◌+◌, ◌-◌, ◌*◌, Bool, false, ◌&&◌, ◌||◌, ◌==◌, nat_lt, nat_le, nat_eq, if◌then◌else◌, List, [], ◌∷◌, length, take, filter, Option, Some, None}
use Rattle.std.specs.List.{slice_split, suffix_len, list_all}
use Rattle.std.specs.Char.{is_ascii_digit, is_ascii_lowercase, is_ascii_alphanumeric}
use Rattle.std.specs.Cmp.Lexicographic.{pointwise}

-- two texts are the same
abbrev pub is_text : List ℕ → List ℕ → Bool
is_text = pointwise nat_eq

-- a space, tab or carriage return
abbrev pub is_blank : ℕ → Bool
is_blank b = (b == 32) || (b == 9) || (b == 13)

-- a line without the blanks at its end
abbrev pub trimmed : List ℕ → List ℕ
trimmed l = take (length l - suffix_len is_blank l) l

abbrev pub is_space : ℕ → Bool
is_space b = b == 32

-- The parts of a line between its spaces, but for the empty ones: words are parted by one or more spaces.
abbrev pub words : List ℕ → List (List ℕ)
words l = filter (λ w. nat_lt 0 (length w)) (slice_split is_space l)

-- an ASCII letter, a digit or '_'
abbrev pub is_word_byte : ℕ → Bool
is_word_byte b = is_ascii_alphanumeric b || (b == 95)

-- A name is a lower-case letter, then letters, digits and '_'.
abbrev pub is_name : List ℕ → Bool
is_name [] = false
is_name (b ∷ rest) = is_ascii_lowercase b && list_all is_word_byte rest

-- the number that decimal digits write, behind those of another number
abbrev pub value_from : ℕ → List ℕ → ℕ
value_from n [] = n
value_from n (d ∷ digits) = value_from (n * 10 + (d - 48)) digits

abbrev pub value : List ℕ → ℕ
value digits = value_from 0 digits

-- A number is one or more digits, which write at most 1,000,000,000.
abbrev pub is_number : List ℕ → Bool
is_number w = nat_lt 0 (length w) && list_all is_ascii_digit w && nat_le (value w) 1000000000

abbrev pub number : List ℕ → Option ℕ
number w = if is_number w then Some (value w) else None
