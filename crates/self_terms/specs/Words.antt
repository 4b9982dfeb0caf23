-- Tagged words: 4 times an integer modulo 2 to the 32nd, and an address plus 1.
use Rattle.std.specs.Prelude.{◌≡◌, ℕ, ℤ, pos, negsuc, ◌+◌, ◌-◌, ◌*◌, ◌/◌, ◌%◌, ◌^◌, ◌≤◌, nat_lt, if◌then◌else◌}

-- an integer of the language: 30 bits, where negsuc n is -(n + 1)
abbrev pub IsSmall : ℤ → Type 0
IsSmall (pos n) = n ≤ 536870911
IsSmall (negsuc n) = n ≤ 536870911

-- a word that stands for an integer: the low two bits are 0
abbrev pub IsInt : ℕ → Type 0
IsInt word = word % 4 ≡ 0

-- the word of an integer: 4 times the integer modulo 2 to the 32nd
abbrev pub word_of : ℤ → ℕ
word_of (pos n) = 4 * n
word_of (negsuc n) = 2 ^ 32 - 4 * (n + 1)

-- the integer of a word: a quarter of the word as a number with sign, rounded down
abbrev pub int_of : ℕ → ℤ
int_of word = if nat_lt word (2 ^ 31) then pos (word / 4) else negsuc ((2 ^ 32 - 1 - word) / 4)
