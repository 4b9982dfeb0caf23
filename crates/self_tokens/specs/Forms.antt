-- The tokens by their forms: what begins a text, after the lexical rules of the Self Handbook, in this subset.
-- Each definition takes the bytes from the first one of the form on. A token goes on as far as its form does.
use Rattle.std.specs.Prelude.{◌≤◌, ℕ, ◌+◌, ◌*◌, ◌-◌, ℤ, pos, neg_ℤ, Bool, true, false, not, ◌&&◌, ◌||◌, ◌==◌, nat_le, if◌then◌else◌, List, [], ◌∷◌, length, take, drop, slice_index}
use Rattle.std.specs.List.{prefix_len}
use Rattle.std.specs.Char.{is_ascii_digit, is_ascii_alphabetic, is_ascii_lowercase, is_ascii_uppercase}
use Rattle.self_tokens.specs.Classes.{is_blank, is_word_byte, is_operator_byte, is_escape, is_no_comment_mark}
use Rattle.self_tokens.specs.declared.symbols.Kind.TheVariants as kind
use Rattle.self_tokens.specs.declared.symbols.Fault.TheVariants as fault
use Rattle.self_tokens.specs.declared.forms.Piece.{Piece}
use Rattle.self_tokens.specs.declared.forms.Piece.TheVariants.{Blank, Whole, Faulty}

-- A comment goes on to the next '"' and with it; these bytes stand behind its first one. Unclosed it is a fault.
abbrev pub comment : List ℕ → Piece
comment rest =
    let n = prefix_len is_no_comment_mark rest in
    if n == length rest then Faulty fault.BadToken 0 else Blank (n + 2)

-- the number that decimal digits write, behind those of another number
abbrev pub decimal_from : ℕ → List ℕ → ℕ
decimal_from n [] = n
decimal_from n (d ∷ digits) = decimal_from (n * 10 + (d - 48)) digits

abbrev pub decimal : List ℕ → ℕ
decimal digits = decimal_from 0 digits

abbrev pub signed : Bool → ℕ → ℤ
signed negative n = if negative then neg_ℤ (pos n) else pos n

-- An integer must lie from -536870912 to 536870911.
abbrev pub number : Bool → ℕ → ℕ → Piece
number negative value n =
    if nat_le value (if negative then 536870912 else 536870911) then Whole (kind.Integer (signed negative value)) n
    else Faulty fault.IntTooWide 0

-- Digits run into a word, or into a fraction.
abbrev pub runs_on : List ℕ → Bool
runs_on rest =
    let b = slice_index rest 0 in
    is_ascii_alphabetic b || (b == 95) || ((b == 46) && is_ascii_digit (slice_index rest 1))

-- an integer of these digits, whose sign has so many bytes
abbrev pub integer : Bool → ℕ → List ℕ → Piece
integer negative sign rest =
    let n = prefix_len is_ascii_digit rest in
    if runs_on (drop n rest) then Faulty fault.BadToken 0 else number negative (decimal (take n rest)) (sign + n)

-- How far the text of a string goes: up to the next quote, or through all where there is none.
-- A backslash takes the byte behind it along.
abbrev pub text_len : Bool → List ℕ → ℕ
text_len escaped [] = 0
text_len true (b ∷ rest) = 1 + text_len false rest
text_len false (b ∷ rest) = if b == 39 then 0 else 1 + text_len (b == 92) rest

-- How far each backslash has an escape letter behind it: up to the first byte that is escaped and is none, or through all.
abbrev pub sound_len : Bool → List ℕ → ℕ
sound_len escaped [] = 0
sound_len true (b ∷ rest) = if is_escape b then 1 + sound_len false rest else 0
sound_len false (b ∷ rest) = 1 + sound_len (b == 92) rest

-- A string, of which these bytes stand behind the first quote. The fault of an escape stands at its backslash.
abbrev pub string : List ℕ → Piece
string rest =
    let n = text_len false rest in
    let sound = sound_len false (take n rest) in
    if n == length rest then Faulty fault.BadToken 0
    else if sound == n then Whole kind.StringLiteral (n + 2) else Faulty fault.BadEscape sound

-- A period, and directly behind it a lower-case letter or an operator byte.
abbrev pub is_sent_to : List ℕ → Bool
is_sent_to rest = (slice_index rest 0 == 46) && (is_ascii_lowercase (slice_index rest 1) || is_operator_byte (slice_index rest 1))

-- A name with ':' behind it is a keyword, and one with such a period behind it a delegate.
abbrev pub name : List ℕ → Piece
name rest =
    let n = prefix_len is_word_byte rest in
    if slice_index (drop n rest) 0 == 58 then Whole kind.Keyword (n + 1)
    else if is_sent_to (drop n rest) then Whole kind.Delegate (n + 1) else Whole kind.Name n

-- A word that begins with '_' is more than that byte.
abbrev pub primitive : List ℕ → Piece
primitive rest =
    let n = prefix_len is_word_byte rest in
    if n == 1 then Faulty fault.BadToken 0
    else if slice_index (drop n rest) 0 == 58 then Whole kind.PrimitiveKeyword (n + 1) else Whole kind.Primitive n

-- A word that begins with a capital letter must be a keyword.
abbrev pub capital : List ℕ → Piece
capital rest =
    let n = prefix_len is_word_byte rest in
    if slice_index (drop n rest) 0 == 58 then Whole kind.CapitalKeyword (n + 1) else Faulty fault.BadToken 0

-- ':' and a name
abbrev pub argument : List ℕ → Piece
argument rest =
    if is_ascii_lowercase (slice_index rest 1) then Whole kind.Argument (1 + prefix_len is_word_byte (drop 1 rest))
    else Faulty fault.BadToken 0

-- The tokens of one byte; any other byte begins none.
abbrev pub single : ℕ → Piece
single b =
    if b == 40 then Whole kind.OpenParen 1
    else if b == 41 then Whole kind.CloseParen 1
    else if b == 91 then Whole kind.OpenBracket 1
    else if b == 93 then Whole kind.CloseBracket 1
    else if b == 124 then Whole kind.Bar 1
    else if b == 46 then Whole kind.Period 1
    else if b == 94 then Whole kind.Caret 1
    else Faulty fault.BadToken 0

-- a form that begins with such a byte
abbrev pub worded : ℕ → List ℕ → Piece
worded b rest =
    if is_ascii_lowercase b then name rest
    else if b == 95 then primitive rest
    else if is_ascii_uppercase b then capital rest
    else if b == 58 then argument rest
    else single b

-- A minus sign belongs to the digits directly behind it, unless the token before ends an operand.
abbrev pub is_signed : Bool → List ℕ → Bool
is_signed behind_operand rest = not behind_operand && (slice_index rest 0 == 45) && is_ascii_digit (slice_index rest 1)

-- What begins a text, behind a token that ends an operand or not: a token,
abbrev pub whole : Bool → List ℕ → Piece
whole behind_operand rest =
    let b = slice_index rest 0 in
    if is_ascii_digit b then integer false 0 rest
    else if is_signed behind_operand rest then integer true 1 (drop 1 rest)
    else if is_operator_byte b then Whole kind.Operator (prefix_len is_operator_byte rest)
    else if b == 39 then string (drop 1 rest)
    else worded b rest

-- a blank, or a comment.
abbrev pub piece : Bool → List ℕ → Piece
piece behind_operand rest =
    let b = slice_index rest 0 in
    if is_blank b then Blank (prefix_len is_blank rest)
    else if b == 34 then comment (drop 1 rest)
    else whole behind_operand rest

-- A blank or a token has a byte at least, and each piece lies within so many bytes.
abbrev pub LiesWithin : Piece → ℕ → Type 0
LiesWithin (Blank n) size = (1 ≤ n) × (n ≤ size)
LiesWithin (Whole k n) size = (1 ≤ n) × (n ≤ size)
LiesWithin (Faulty f n) size = n ≤ size
