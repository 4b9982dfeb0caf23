-- Classes of bytes, after the lexical rules of the Self Handbook, in this subset.
use Rattle.std.specs.Prelude.{ℕ, Bool, not, ◌||◌, ◌==◌, List, [], ◌∷◌}
use Rattle.std.specs.List.{list_any}
use Rattle.std.specs.Char.{is_ascii_alphanumeric}

-- a byte is one of these
abbrev pub is_one_of : List ℕ → ℕ → Bool
is_one_of bytes b = list_any (λ x. x == b) bytes

-- a space, tab, newline or carriage return
abbrev pub is_blank : ℕ → Bool
is_blank b = (b == 32) || (b == 9) || (b == 10) || (b == 13)

-- an ASCII letter, a digit or '_'
abbrev pub is_word_byte : ℕ → Bool
is_word_byte b = is_ascii_alphanumeric b || (b == 95)

-- + - * / % < > = ~ ! & @ , ? #
abbrev pub operator_bytes : List ℕ
operator_bytes = 43 ∷ 45 ∷ 42 ∷ 47 ∷ 37 ∷ 60 ∷ 62 ∷ 61 ∷ 126 ∷ 33 ∷ 38 ∷ 64 ∷ 44 ∷ 63 ∷ 35 ∷ []

abbrev pub is_operator_byte : ℕ → Bool
is_operator_byte b = is_one_of operator_bytes b

-- n t r 0 \ ' "
abbrev pub escape_letters : List ℕ
escape_letters = 110 ∷ 116 ∷ 114 ∷ 48 ∷ 92 ∷ 39 ∷ 34 ∷ []

abbrev pub is_escape : ℕ → Bool
is_escape b = is_one_of escape_letters b

-- any byte but '"'
abbrev pub is_no_comment_mark : ℕ → Bool
is_no_comment_mark b = not (b == 34)
