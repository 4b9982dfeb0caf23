-- The signs of a text: how many there are, and that the last one, and no other, is the end or a fault.
use Rattle.std.proofs.Common.{◌≡◌, ◌≤◌, ◌+◌, ◌-◌, ℕ, zero, suc, Bool, true, false, cond, List, [], ◌∷◌, length, drop, map, refl, ◌∙◌, arith}
use Rattle.std.specs.Prelude.{◌==◌, nat_le, slice_index, take, Result, Ok, Err, IfOk}
use Rattle.std.specs.List.{prefix_len}
use Rattle.std.specs.Char.{is_ascii_digit, is_ascii_lowercase, is_ascii_uppercase}
use Rattle.self_tokens.specs.declared.forms.Piece.{Piece}
use Rattle.self_tokens.specs.declared.forms.Piece.TheVariants.{Blank, Whole, Faulty}
use Rattle.self_tokens.specs.declared.symbols.Kind.{Kind}
use Rattle.self_tokens.specs.declared.symbols.Kind.TheVariants as kind
use Rattle.self_tokens.specs.declared.symbols.Token.{Token}
use Rattle.self_tokens.specs.Classes.{is_blank, is_word_byte, is_operator_byte, is_no_comment_mark}
use Rattle.self_tokens.specs.Forms.{comment, decimal, number, integer, runs_on, text_len, sound_len, string, is_sent_to, name, primitive, capital, argument, single, worded, is_signed, whole, piece}
use Rattle.self_tokens.specs.Kinds.{ends_operand}
use Rattle.self_tokens.specs.Texts.{text_of}
use Rattle.self_tokens.specs.Tokens.{tokens, tokens_from, from_piece, token}
use Rattle.self_grammar.specs.declared.signs.Symbol.{Symbol}
use Rattle.self_grammar.specs.declared.signs.Sign.{Sign}
use Rattle.self_signs.specs.Signs.{is_restart, is_restart_keyword, symbol_at, sign_of, is_last, IsClosed}

-- the end of a text, or a fault, by its kind
abbrev pub is_end : Kind → Bool
is_end kind.End = true
is_end (kind.Bad f) = true
is_end _ = false

abbrev pub AreClosed : List Token → Type 0
AreClosed [] = ⊥
AreClosed (t ∷ []) = is_end t.kind ≡ true
AreClosed (t ∷ u ∷ rest) = (is_end t.kind ≡ false) × AreClosed (u ∷ rest)

-- A token that is read is neither.
abbrev pub IsRead : Piece → Type 0
IsRead (Blank n) = Unit {0}
IsRead (Whole k n) = is_end k ≡ false
IsRead (Faulty f n) = Unit {0}

chosen : (b : Bool) (x y : Piece) → IsRead x → IsRead y → IsRead (cond b x y)
chosen true x y h k = h
chosen false x y h k = k

number_read : (negative : Bool) (value n : ℕ) → IsRead (number negative value n)
number_read negative value n = chosen (nat_le value (cond negative 536870912 536870911)) _ _ refl tt

comment_read : (rest : List ℕ) → IsRead (comment rest)
comment_read rest = chosen (prefix_len is_no_comment_mark rest == length rest) _ _ tt tt

integer_read : (negative : Bool) (sign : ℕ) (rest : List ℕ) → IsRead (integer negative sign rest)
integer_read negative sign rest =
    chosen (runs_on (drop (prefix_len is_ascii_digit rest) rest)) _ _ tt
    (number_read negative (decimal (take (prefix_len is_ascii_digit rest) rest)) (sign + prefix_len is_ascii_digit rest))

string_read : (rest : List ℕ) → IsRead (string rest)
string_read rest =
    chosen (text_len false rest == length rest) _ _ tt
    (chosen (sound_len false (take (text_len false rest) rest) == text_len false rest) _ _ refl tt)

name_read : (rest : List ℕ) → IsRead (name rest)
name_read rest =
    chosen (slice_index (drop (prefix_len is_word_byte rest) rest) 0 == 58) _ _ refl
    (chosen (is_sent_to (drop (prefix_len is_word_byte rest) rest)) _ _ refl refl)

primitive_read : (rest : List ℕ) → IsRead (primitive rest)
primitive_read rest =
    chosen (prefix_len is_word_byte rest == 1) _ _ tt
    (chosen (slice_index (drop (prefix_len is_word_byte rest) rest) 0 == 58) _ _ refl refl)

capital_read : (rest : List ℕ) → IsRead (capital rest)
capital_read rest = chosen (slice_index (drop (prefix_len is_word_byte rest) rest) 0 == 58) _ _ refl tt

argument_read : (rest : List ℕ) → IsRead (argument rest)
argument_read rest = chosen (is_ascii_lowercase (slice_index rest 1)) _ _ refl tt

single_read : (b : ℕ) → IsRead (single b)
single_read b =
    chosen (b == 40) _ _ refl
    (chosen (b == 41) _ _ refl
    (chosen (b == 91) _ _ refl
    (chosen (b == 93) _ _ refl
    (chosen (b == 124) _ _ refl
    (chosen (b == 46) _ _ refl
    (chosen (b == 94) _ _ refl tt))))))

worded_read : (b : ℕ) (rest : List ℕ) → IsRead (worded b rest)
worded_read b rest =
    chosen (is_ascii_lowercase b) _ _ (name_read rest)
    (chosen (b == 95) _ _ (primitive_read rest)
    (chosen (is_ascii_uppercase b) _ _ (capital_read rest)
    (chosen (b == 58) _ _ (argument_read rest) (single_read b))))

whole_read : (behind : Bool) (rest : List ℕ) → IsRead (whole behind rest)
whole_read behind rest =
    let b = slice_index rest 0 in
    chosen (is_ascii_digit b) _ _ (integer_read false 0 rest)
    (chosen (is_signed behind rest) _ _ (integer_read true 1 (drop 1 rest))
    (chosen (is_operator_byte b) _ _ refl
    (chosen (b == 39) _ _ (string_read (drop 1 rest)) (worded_read b rest))))

piece_read : (behind : Bool) (rest : List ℕ) → IsRead (piece behind rest)
piece_read behind rest =
    let b = slice_index rest 0 in
    chosen (is_blank b) _ _ tt (chosen (b == 34) _ _ (comment_read (drop 1 rest)) (whole_read behind rest))

behind_one : (t : Token) (ts : List Token) → is_end t.kind ≡ false → AreClosed ts → AreClosed (t ∷ ts)
behind_one t [] e closed = absurd closed
behind_one t (u ∷ ts) e closed = (e, closed)

piece_closed : (bytes : List ℕ) (place : ℕ) (behind : Bool) (go : ℕ → Bool → List Token) (p : Piece) → IsRead p →
    ((left : ℕ) (b : Bool) → AreClosed (go left b)) → AreClosed (from_piece bytes place behind go p)
piece_closed bytes place behind go (Blank n) read closed = closed (n - 1) behind
piece_closed bytes place behind go (Whole k n) read closed =
    behind_one (token bytes k place (place + n)) (go (n - 1) (ends_operand k)) read (closed (n - 1) (ends_operand k))
piece_closed bytes place behind go (Faulty f n) read closed = refl

from_closed : (bytes rest : List ℕ) (left place : ℕ) (behind : Bool) → AreClosed (tokens_from bytes left behind place rest)
from_closed bytes [] left place behind = refl
from_closed bytes (b ∷ rest) (suc left) place behind = from_closed bytes rest left (place + 1) behind
from_closed bytes (b ∷ rest) zero place behind =
    piece_closed bytes place behind _ (piece behind (b ∷ rest)) (piece_read behind (b ∷ rest)) (λ left c. from_closed bytes rest left (place + 1) c)

piece_few : (bytes : List ℕ) (place n : ℕ) (behind : Bool) (go : ℕ → Bool → List Token) (p : Piece) →
    ((left : ℕ) (b : Bool) → length (go left b) ≤ n) → length (from_piece bytes place behind go p) ≤ n + 1
piece_few bytes place n behind go (Blank m) few = let h = few (m - 1) behind in omega arith
piece_few bytes place n behind go (Whole k m) few = let h = few (m - 1) (ends_operand k) in omega arith
piece_few bytes place n behind go (Faulty f m) few = omega arith

from_few : (bytes rest : List ℕ) (left place : ℕ) (behind : Bool) → length (tokens_from bytes left behind place rest) ≤ length rest + 1
from_few bytes [] left place behind = omega arith
from_few bytes (b ∷ rest) (suc left) place behind = let h = from_few bytes rest left (place + 1) behind in omega arith
from_few bytes (b ∷ rest) zero place behind =
    let h = piece_few bytes place (length rest + 1) behind _ (piece behind (b ∷ rest)) (λ left c. from_few bytes rest left (place + 1) c) in
    omega arith

-- There are at most as many tokens as bytes, and one more.
pub tokens_few : (bytes : List ℕ) → length (tokens bytes) ≤ length bytes + 1
tokens_few bytes = from_few bytes bytes 0 0 false

-- A symbol ends a text where its kind does.
either_not : (b : Bool) (x y : Symbol) → is_last x ≡ false → is_last y ≡ false → is_last (cond b x y) ≡ false
either_not true x y h k = h
either_not false x y h k = k

last_is_end : (number : List ℕ → ℕ) (k : Kind) (text : List ℕ) (start end : ℕ) → is_last (symbol_at number k text start end) ≡ is_end k
last_is_end number (kind.Integer i) text start end = refl
last_is_end number kind.StringLiteral text start end = refl
last_is_end number kind.Name text start end = refl
last_is_end number kind.Primitive text start end = either_not (is_restart text) _ _ refl refl
last_is_end number kind.Keyword text start end = refl
last_is_end number kind.PrimitiveKeyword text start end = either_not (is_restart_keyword text) _ _ refl refl
last_is_end number kind.CapitalKeyword text start end = refl
last_is_end number kind.Argument text start end = refl
last_is_end number kind.Delegate text start end = refl
last_is_end number kind.Operator text start end = refl
last_is_end number kind.OpenParen text start end = refl
last_is_end number kind.CloseParen text start end = refl
last_is_end number kind.OpenBracket text start end = refl
last_is_end number kind.CloseBracket text start end = refl
last_is_end number kind.Bar text start end = refl
last_is_end number kind.Period text start end = refl
last_is_end number kind.Caret text start end = refl
last_is_end number kind.End text start end = refl
last_is_end number (kind.Bad f) text start end = refl

sign_last : (names : List (List ℕ)) (bytes : List ℕ) (t : Token) → is_last (sign_of names bytes t).symbol ≡ is_end t.kind
sign_last names bytes t = last_is_end _ t.kind (text_of bytes t) t.start t.end

signed_closed : (names : List (List ℕ)) (bytes : List ℕ) (ts : List Token) → AreClosed ts → IsClosed (map (sign_of names bytes) ts)
signed_closed names bytes [] closed = closed
signed_closed names bytes (t ∷ []) closed = sign_last names bytes t ∙ closed
signed_closed names bytes (t ∷ u ∷ rest) closed = (sign_last names bytes t ∙ closed.0, signed_closed names bytes (u ∷ rest) closed.1)

pub tokens_closed : (names : List (List ℕ)) (bytes : List ℕ) → IsClosed (map (sign_of names bytes) (tokens bytes))
tokens_closed names bytes = signed_closed names bytes (tokens bytes) (from_closed bytes bytes 0 0 false)

pub list_closed : (E : Type 0) (names : List (List ℕ)) (bytes : List ℕ) (ts : List Token) (r : Result (List Sign) E) → ts ≡ tokens bytes →
    IfOk r (λ list. list ≡ map (sign_of names bytes) ts) → IfOk r IsClosed
list_closed E names bytes ts (Ok list) all e = rw (e, all) (tokens_closed names bytes)
list_closed E names bytes ts (Err x) all e = tt
