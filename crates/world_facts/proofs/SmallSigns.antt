-- The integers of the signs of a text are 30 bits wide.
use Rattle.std.specs.Prelude.{◌≡◌, ℕ, option_map, zero, suc, ◌+◌, ◌-◌, pos, negsuc, Bool, true, false, ◌==◌, nat_le, if◌then◌else◌, List, [], ◌∷◌, length, map, take, drop, slice_index, refl}
use Rattle.std.specs.List.{prefix_len}
use Rattle.std.specs.Char.{is_ascii_digit, is_ascii_lowercase, is_ascii_uppercase}
use Rattle.std.proofs.Common.{arith}
use Rattle.std.proofs.lemmas.Grind.{common_steps}
use Rattle.self_terms.specs.Words.{IsSmall}
use Rattle.self_tokens.specs.declared.symbols.Kind.{Kind}
use Rattle.self_tokens.specs.declared.symbols.Kind.TheVariants as kind
use Rattle.self_tokens.specs.declared.symbols.Fault.TheVariants as fault
use Rattle.self_tokens.specs.declared.symbols.Token.{Token}
use Rattle.self_tokens.specs.declared.forms.Piece.{Piece}
use Rattle.self_tokens.specs.declared.forms.Piece.TheVariants.{Blank, Whole, Faulty}
use Rattle.self_tokens.specs.Classes.{is_blank, is_word_byte, is_operator_byte, is_no_comment_mark}
use Rattle.self_tokens.specs.Forms as f
use Rattle.self_tokens.specs.Kinds.{ends_operand}
use Rattle.self_tokens.specs.Texts.{text_of}
use Rattle.self_tokens.specs.Tokens.{tokens, tokens_from, from_piece}
use Rattle.self_grammar.specs.declared.signs.Symbol.TheVariants as sign
use Rattle.self_grammar.specs.Balance.{OfSymbol, OfSigns}
use Rattle.self_signs.specs.Signs.{signs, sign_of, symbol_at, number_of, names_after, is_restart, is_restart_keyword, unhandled}

-- the integer of a token
abbrev pub OfKind : Kind → Type 0
OfKind (kind.Integer i) = IsSmall i
OfKind _ = Unit {0}

-- and of each of some tokens
abbrev pub OfTokens : List Token → Type 0
OfTokens [] = Unit {0}
OfTokens (t ∷ ts) = OfKind t.kind × OfTokens ts

abbrev OfPiece : Piece → Type 0
OfPiece (Whole k n) = OfKind k
OfPiece _ = Unit {0}

-- What holds of both holds of either.
either : {A : Type 0} (P : A → Type 0) (b : Bool) (x y : A) → P x → P y → P (if b then x else y)
either P true x y p q = p
either P false x y p q = q

small_number : (negative : Bool) (value n : ℕ) → OfPiece (f.number negative value n)
small_number false value n = by (nat_le value 536870911) refl
  where
    by : (b : Bool) → nat_le value 536870911 ≡ b → OfPiece (if b then Whole (kind.Integer (pos value)) n else Faulty fault.IntTooWide 0)
    by true e = grind (arith, common_steps)
    by false e = tt
small_number true zero n = omega arith
small_number true (suc value) n = by (nat_le (suc value) 536870912) refl
  where
    by : (b : Bool) → nat_le (suc value) 536870912 ≡ b → OfPiece (if b then Whole (kind.Integer (negsuc value)) n else Faulty fault.IntTooWide 0)
    by true e = grind (arith, common_steps)
    by false e = tt

abbrev bad : Piece
bad = Faulty fault.BadToken 0

small_integer : (negative : Bool) (sign : ℕ) (rest : List ℕ) → OfPiece (f.integer negative sign rest)
small_integer negative sign rest =
    let n = prefix_len is_ascii_digit rest in
    either OfPiece (f.runs_on (drop n rest)) bad (f.number negative (f.decimal (take n rest)) (sign + n)) tt (small_number negative (f.decimal (take n rest)) (sign + n))

small_string : (rest : List ℕ) → OfPiece (f.string rest)
small_string rest =
    let n = f.text_len false rest in
    let sound = f.sound_len false (take n rest) in
    either OfPiece (n == length rest) bad (if sound == n then Whole kind.StringLiteral (n + 2) else Faulty fault.BadEscape sound) tt
    (either OfPiece (sound == n) (Whole kind.StringLiteral (n + 2)) (Faulty fault.BadEscape sound) tt tt)

small_name : (rest : List ℕ) → OfPiece (f.name rest)
small_name rest =
    let n = prefix_len is_word_byte rest in
    either OfPiece (slice_index (drop n rest) 0 == 58) (Whole kind.Keyword (n + 1)) (if f.is_sent_to (drop n rest) then Whole kind.Delegate (n + 1) else Whole kind.Name n) tt
    (either OfPiece (f.is_sent_to (drop n rest)) (Whole kind.Delegate (n + 1)) (Whole kind.Name n) tt tt)

small_primitive : (rest : List ℕ) → OfPiece (f.primitive rest)
small_primitive rest =
    let n = prefix_len is_word_byte rest in
    either OfPiece (n == 1) bad (if slice_index (drop n rest) 0 == 58 then Whole kind.PrimitiveKeyword (n + 1) else Whole kind.Primitive n) tt
    (either OfPiece (slice_index (drop n rest) 0 == 58) (Whole kind.PrimitiveKeyword (n + 1)) (Whole kind.Primitive n) tt tt)

small_capital : (rest : List ℕ) → OfPiece (f.capital rest)
small_capital rest =
    let n = prefix_len is_word_byte rest in
    either OfPiece (slice_index (drop n rest) 0 == 58) (Whole kind.CapitalKeyword (n + 1)) bad tt tt

small_argument : (rest : List ℕ) → OfPiece (f.argument rest)
small_argument rest = either OfPiece (is_ascii_lowercase (slice_index rest 1)) (Whole kind.Argument (1 + prefix_len is_word_byte (drop 1 rest))) bad tt tt

small_comment : (rest : List ℕ) → OfPiece (f.comment rest)
small_comment rest =
    let n = prefix_len is_no_comment_mark rest in
    either OfPiece (n == length rest) bad (Blank (n + 2)) tt tt

small_single : (b : ℕ) → OfPiece (f.single b)
small_single b =
    let p7 : Piece = if b == 94 then Whole kind.Caret 1 else bad in
    let p6 : Piece = if b == 46 then Whole kind.Period 1 else p7 in
    let p5 : Piece = if b == 124 then Whole kind.Bar 1 else p6 in
    let p4 : Piece = if b == 93 then Whole kind.CloseBracket 1 else p5 in
    let p3 : Piece = if b == 91 then Whole kind.OpenBracket 1 else p4 in
    let p2 : Piece = if b == 41 then Whole kind.CloseParen 1 else p3 in
    either OfPiece (b == 40) (Whole kind.OpenParen 1) p2 tt (either OfPiece (b == 41) (Whole kind.CloseParen 1) p3 tt
    (either OfPiece (b == 91) (Whole kind.OpenBracket 1) p4 tt (either OfPiece (b == 93) (Whole kind.CloseBracket 1) p5 tt
    (either OfPiece (b == 124) (Whole kind.Bar 1) p6 tt (either OfPiece (b == 46) (Whole kind.Period 1) p7 tt (either OfPiece (b == 94) (Whole kind.Caret 1) bad tt tt))))))

small_worded : (b : ℕ) (rest : List ℕ) → OfPiece (f.worded b rest)
small_worded b rest =
    let p4 : Piece = if b == 58 then f.argument rest else f.single b in
    let p3 : Piece = if is_ascii_uppercase b then f.capital rest else p4 in
    let p2 : Piece = if b == 95 then f.primitive rest else p3 in
    either OfPiece (is_ascii_lowercase b) (f.name rest) p2 (small_name rest) (either OfPiece (b == 95) (f.primitive rest) p3 (small_primitive rest)
    (either OfPiece (is_ascii_uppercase b) (f.capital rest) p4 (small_capital rest) (either OfPiece (b == 58) (f.argument rest) (f.single b) (small_argument rest) (small_single b))))

small_whole : (behind_operand : Bool) (rest : List ℕ) → OfPiece (f.whole behind_operand rest)
small_whole behind_operand rest =
    let b = slice_index rest 0 in
    let p4 : Piece = if b == 39 then f.string (drop 1 rest) else f.worded b rest in
    let operator : Piece = Whole kind.Operator (prefix_len is_operator_byte rest) in
    let p3 : Piece = if is_operator_byte b then operator else p4 in
    let p2 : Piece = if f.is_signed behind_operand rest then f.integer true 1 (drop 1 rest) else p3 in
    either OfPiece (is_ascii_digit b) (f.integer false 0 rest) p2 (small_integer false 0 rest)
    (either OfPiece (f.is_signed behind_operand rest) (f.integer true 1 (drop 1 rest)) p3 (small_integer true 1 (drop 1 rest))
    (either OfPiece (is_operator_byte b) operator p4 tt (either OfPiece (b == 39) (f.string (drop 1 rest)) (f.worded b rest) (small_string (drop 1 rest)) (small_worded b rest))))

small_piece : (behind_operand : Bool) (rest : List ℕ) → OfPiece (f.piece behind_operand rest)
small_piece behind_operand rest =
    let b = slice_index rest 0 in
    let p2 : Piece = if b == 34 then f.comment (drop 1 rest) else f.whole behind_operand rest in
    either OfPiece (is_blank b) (Blank (prefix_len is_blank rest)) p2 tt (either OfPiece (b == 34) (f.comment (drop 1 rest)) (f.whole behind_operand rest) (small_comment (drop 1 rest)) (small_whole behind_operand rest))

small_behind : (bytes : List ℕ) (place : ℕ) (b : Bool) (go : ℕ → Bool → List Token) → ((left : ℕ) (c : Bool) → OfTokens (go left c)) → (p : Piece) → OfPiece p → OfTokens (from_piece bytes place b go p)
small_behind bytes place b go h (Blank n) s = h (n - 1) b
small_behind bytes place b go h (Whole k n) s = (s, h (n - 1) (ends_operand k))
small_behind bytes place b go h (Faulty f n) s = (tt, tt)

small_from : (bytes : List ℕ) (left : ℕ) (b : Bool) (place : ℕ) (rest : List ℕ) → OfTokens (tokens_from bytes left b place rest)
small_from bytes left b place [] = (tt, tt)
small_from bytes (suc left) b place (x ∷ rest) = small_from bytes left b (place + 1) rest
small_from bytes zero b place (x ∷ rest) =
    small_behind bytes place b (λ left c. tokens_from bytes left c (place + 1) rest) (λ left c. small_from bytes left c (place + 1) rest) (f.piece b (x ∷ rest)) (small_piece b (x ∷ rest))

-- Each integer token has an integer of the language.
pub small_tokens : (bytes : List ℕ) → OfTokens (tokens bytes)
small_tokens bytes = small_from bytes 0 false 0 bytes

small_symbol : (number : List ℕ → ℕ) (k : Kind) (text : List ℕ) (start end : ℕ) → OfKind k → OfSymbol IsSmall (symbol_at number k text start end)
small_symbol number (kind.Integer i) text start end h = h
small_symbol number kind.StringLiteral text start end h = tt
small_symbol number kind.Name text start end h = tt
small_symbol number kind.Primitive text start end h = either (OfSymbol IsSmall) (is_restart text) sign.Restart (sign.Primitive (number text)) tt tt
small_symbol number kind.Keyword text start end h = tt
small_symbol number kind.PrimitiveKeyword text start end h = either (OfSymbol IsSmall) (is_restart_keyword text) sign.RestartKeyword (sign.PrimitiveKeyword (number text) (option_map number (unhandled text))) tt tt
small_symbol number kind.CapitalKeyword text start end h = tt
small_symbol number kind.Argument text start end h = tt
small_symbol number kind.Delegate text start end h = tt
small_symbol number kind.Operator text start end h = tt
small_symbol number kind.OpenParen text start end h = tt
small_symbol number kind.CloseParen text start end h = tt
small_symbol number kind.OpenBracket text start end h = tt
small_symbol number kind.CloseBracket text start end h = tt
small_symbol number kind.Bar text start end h = tt
small_symbol number kind.Period text start end h = tt
small_symbol number kind.Caret text start end h = tt
small_symbol number kind.End text start end h = tt
small_symbol number (kind.Bad x) text start end h = tt

small_map : (names : List (List ℕ)) (bytes : List ℕ) (ts : List Token) → OfTokens ts → OfSigns IsSmall (map (sign_of names bytes) ts)
small_map names bytes [] h = tt
small_map names bytes (t ∷ ts) h = (small_symbol (number_of names) t.kind (text_of bytes t) t.start t.end h.0, small_map names bytes ts h.1)

-- So has each integer sign.
pub small_signs : (given : List (List ℕ)) (bytes : List ℕ) → OfSigns IsSmall (signs given bytes)
small_signs given bytes = small_map (names_after given bytes (tokens bytes)) bytes (tokens bytes) (small_tokens bytes)
