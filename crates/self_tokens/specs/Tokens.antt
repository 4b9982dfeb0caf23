-- The tokens of a text and their places.
use Rattle.std.specs.Prelude.{◌≡◌, ℕ, ◌+◌, ◌-◌, zero, suc, Bool, false, not, ◌==◌, List, [], ◌∷◌, take}
use Rattle.std.specs.List.{count_by, suffix_len}
use Rattle.self_tokens.specs.declared.symbols.Kind.{Kind}
use Rattle.self_tokens.specs.declared.symbols.Kind.TheVariants as kind
use Rattle.self_tokens.specs.declared.symbols.Token.{Token}
use Rattle.self_tokens.specs.declared.forms.Piece.{Piece}
use Rattle.self_tokens.specs.declared.forms.Piece.TheVariants.{Blank, Whole, Faulty}
use Rattle.self_tokens.specs.Forms.{piece}
use Rattle.self_tokens.specs.Kinds.{ends_operand}

-- a newline
abbrev pub is_newline : ℕ → Bool
is_newline b = b == 10

-- The line of a place is one more than the newlines before it,
abbrev pub line_of : List ℕ → ℕ → ℕ
line_of bytes place = 1 + count_by is_newline (take place bytes)

-- and its column one more than the bytes before it that come behind the last of those.
abbrev pub column_of : List ℕ → ℕ → ℕ
column_of bytes place = 1 + suffix_len (λ b. not (is_newline b)) (take place bytes)

-- the token of these bytes, from its first place up to the one behind it
abbrev pub token : List ℕ → Kind → ℕ → ℕ → Token
token bytes what start end =
    record { kind = what; start = start; end = end; line = line_of bytes start; column = column_of bytes start }

-- The tokens from a place on, where a piece begins there and `go` gives those behind so many more of its bytes.
abbrev pub from_piece : List ℕ → ℕ → Bool → (ℕ → Bool → List Token) → Piece → List Token
from_piece bytes place behind_operand go (Blank n) = go (n - 1) behind_operand
from_piece bytes place behind_operand go (Whole k n) = token bytes k place (place + n) ∷ go (n - 1) (ends_operand k)
from_piece bytes place behind_operand go (Faulty f n) = token bytes (kind.Bad f) (place + n) (place + n) ∷ []

-- The tokens from a place on, of which `rest` is left, the first `left` bytes of it of a piece that began before.
abbrev pub tokens_from : List ℕ → ℕ → Bool → ℕ → List ℕ → List Token
tokens_from bytes left behind_operand place [] = token bytes kind.End place place ∷ []
tokens_from bytes (suc left) behind_operand place (b ∷ rest) = tokens_from bytes left behind_operand (place + 1) rest
tokens_from bytes zero behind_operand place (b ∷ rest) =
    from_piece bytes place behind_operand (λ left behind. tokens_from bytes left behind (place + 1) rest) (piece behind_operand (b ∷ rest))

-- The tokens of a text: pieces follow each other up to the end or the first fault, and blanks are no tokens.
abbrev pub tokens : List ℕ → List Token
tokens bytes = tokens_from bytes 0 false 0 bytes

-- A place has this line and this column.
pub record IsPlace (bytes : List ℕ) (place line column : ℕ) : Type 0 where
  pub line_is : line ≡ line_of bytes place
  pub column_is : column ≡ column_of bytes place
