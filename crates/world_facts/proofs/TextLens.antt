-- The strings of a text are together no longer than its bytes.
use Rattle.std.specs.Prelude.{ℕ, zero, suc, ◌+◌, ◌-◌, ◌≤◌, Bool, true, false, if◌then◌else◌, List, [], ◌∷◌, length, map}
use Rattle.std.proofs.Common.{arith}
use Rattle.self_tokens.specs.declared.symbols.Kind.{Kind}
use Rattle.self_tokens.specs.declared.symbols.Kind.TheVariants as kind
use Rattle.self_tokens.specs.declared.symbols.Token.{Token}
use Rattle.self_tokens.specs.declared.forms.Piece.{Piece}
use Rattle.self_tokens.specs.declared.forms.Piece.TheVariants.{Blank, Whole, Faulty}
use Rattle.self_tokens.specs.Forms.{piece, LiesWithin}
use Rattle.self_tokens.specs.Kinds.{ends_operand}
use Rattle.self_tokens.specs.Texts.{text_of}
use Rattle.self_tokens.specs.Tokens.{tokens, tokens_from, from_piece, token}
use Rattle.self_tokens.proofs.Within.{piece_within}
use Rattle.self_grammar.specs.declared.signs.Symbol.{Symbol}
use Rattle.self_signs.specs.Signs.{signs, sign_of, symbol_at, number_of, names_after, is_restart, is_restart_keyword}
use Rattle.world_build.proofs.Heavy.{text_len, text_lens}

one_of : (b : Bool) (x y : Symbol) (n : ℕ) → text_len x ≤ n → text_len y ≤ n → text_len (if b then x else y) ≤ n
one_of true x y n h k = h
one_of false x y n h k = k

-- The text of a string lies between its quotes.
symbol_len : (number : List ℕ → ℕ) (k : Kind) (text : List ℕ) (start end : ℕ) → text_len (symbol_at number k text start end) ≤ end - start - 2
symbol_len number (kind.Integer i) text start end = omega arith
symbol_len number kind.StringLiteral text start end = omega arith
symbol_len number kind.Name text start end = omega arith
symbol_len number kind.Primitive text start end = one_of (is_restart text) _ _ (end - start - 2) (omega arith) (omega arith)
symbol_len number kind.Keyword text start end = omega arith
symbol_len number kind.PrimitiveKeyword text start end = one_of (is_restart_keyword text) _ _ (end - start - 2) (omega arith) (omega arith)
symbol_len number kind.CapitalKeyword text start end = omega arith
symbol_len number kind.Argument text start end = omega arith
symbol_len number kind.Delegate text start end = omega arith
symbol_len number kind.Operator text start end = omega arith
symbol_len number kind.OpenParen text start end = omega arith
symbol_len number kind.CloseParen text start end = omega arith
symbol_len number kind.OpenBracket text start end = omega arith
symbol_len number kind.CloseBracket text start end = omega arith
symbol_len number kind.Bar text start end = omega arith
symbol_len number kind.Period text start end = omega arith
symbol_len number kind.Caret text start end = omega arith
symbol_len number kind.End text start end = omega arith
symbol_len number (kind.Bad f) text start end = omega arith

-- the length of the strings of some tokens
abbrev lens : List (List ℕ) → List ℕ → List Token → ℕ
lens names bytes ts = text_lens (map (sign_of names bytes) ts)

piece_lens : (names : List (List ℕ)) (bytes : List ℕ) (place size : ℕ) (b : Bool) (go : ℕ → Bool → List Token) (p : Piece) → LiesWithin p size →
    ((left : ℕ) (c : Bool) → lens names bytes (go left c) ≤ size - 1 - left) → lens names bytes (from_piece bytes place b go p) ≤ size
piece_lens names bytes place size b go (Blank n) w h = omega (arith, h (n - 1) b)
piece_lens names bytes place size b go (Whole k n) w h =
    omega (arith, w.0, w.1, h (n - 1) (ends_operand k), symbol_len (number_of names) k (text_of bytes (token bytes k place (place + n))) place (place + n))
piece_lens names bytes place size b go (Faulty f n) w h = omega arith

from_lens : (names : List (List ℕ)) (bytes : List ℕ) (left : ℕ) (b : Bool) (place : ℕ) (rest : List ℕ) → lens names bytes (tokens_from bytes left b place rest) ≤ length rest - left
from_lens names bytes left b place [] = omega arith
from_lens names bytes (suc left) b place (x ∷ rest) = omega (arith, from_lens names bytes left b (place + 1) rest)
from_lens names bytes zero b place (x ∷ rest) =
    omega (
      arith,
      piece_lens names bytes place (length (x ∷ rest)) b (λ left c. tokens_from bytes left c (place + 1) rest) (piece b (x ∷ rest)) (piece_within b (x ∷ rest) (omega arith))
          (λ left c. omega (arith, from_lens names bytes left c (place + 1) rest)),
    )

-- the strings of all signs
pub text_lens_few : (given : List (List ℕ)) (bytes : List ℕ) → text_lens (signs given bytes) ≤ length bytes
text_lens_few given bytes = omega (arith, from_lens (names_after given bytes (tokens bytes)) bytes 0 false 0 bytes)
