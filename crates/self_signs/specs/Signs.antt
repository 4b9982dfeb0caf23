-- The signs of a text: its tokens, with numbers for their names. Each text that needs a name gets one, in the order of the
-- tokens; equal texts have one name. So for the names that were given before, the signs are a function of the bytes.
use Rattle.std.specs.Prelude.{◌≡◌, ℕ, ◌+◌, ◌-◌, Bool, true, false, ◌&&◌, ◌||◌, nat_eq, nat_lt, if◌then◌else◌, Option, None, Some, List, [], ◌∷◌, ◌++◌, length, take, drop, map, fold, codes, option_map, option_to_list}
use Rattle.std.specs.List.{position_or_len, ends_with}
use Rattle.std.specs.Cmp.Lexicographic.{pointwise}
use Rattle.self_terms.specs.Names.{with_text}
use Rattle.self_tokens.specs.declared.symbols.Kind.{Kind}
use Rattle.self_tokens.specs.declared.symbols.Kind.TheVariants as kind
use Rattle.self_tokens.specs.declared.symbols.Token.{Token}
use Rattle.self_tokens.specs.Texts.{text_of}
use Rattle.self_tokens.specs.Tokens.{tokens}
use Rattle.self_grammar.specs.declared.signs.Reserved.{Reserved}
use Rattle.self_grammar.specs.declared.signs.Reserved.TheVariants.{Free, Itself, Resend}
use Rattle.self_grammar.specs.declared.signs.Role.{Role}
use Rattle.self_grammar.specs.declared.signs.Role.TheVariants.{Equals, Arrow, Star, Other}
use Rattle.self_grammar.specs.declared.signs.Symbol.{Symbol}
use Rattle.self_grammar.specs.declared.signs.Symbol.TheVariants as sign
use Rattle.self_grammar.specs.declared.signs.Sign.{Sign}

-- the number of a text that has a name: its place among the names, from 1
abbrev pub number_of : List (List ℕ) → List ℕ → ℕ
number_of names text = 1 + position_or_len (pointwise nat_eq text) names

-- a text is this other one
abbrev pub is_text : List ℕ → List ℕ → Bool
is_text text other = pointwise nat_eq text other

-- the name of the assignment slot of a name: with a colon behind it
abbrev pub setter : List ℕ → List ℕ
setter text = text ++ 58 ∷ []

abbrev pub reserved : List ℕ → Reserved
reserved text = if is_text text (codes "self") then Itself else if is_text text (codes "resend") then Resend else Free

abbrev pub role : List ℕ → Role
role text = if is_text text (codes "=") then Equals else if is_text text (codes "<-") then Arrow else if is_text text (codes "*") then Star else Other

-- a primitive name, and a primitive keyword, that begin the body again, and are no messages
abbrev pub is_restart : List ℕ → Bool
is_restart text = is_text text (codes "_Restart")

abbrev pub is_restart_keyword : List ℕ → Bool
is_restart_keyword text = is_text text (codes "_Restart:") || is_text text (codes "_RestartIfFail:")

-- a primitive keyword without the 'IfFail:' with which it ends, where more than '_' is left of it
abbrev pub unhandled : List ℕ → Option (List ℕ)
unhandled text = if nat_lt 8 (length text) && ends_with nat_eq text (codes "IfFail:") then Some (take (length text - 7) text) else None

-- the name in an argument, behind its colon, and in a delegate, before its period
abbrev pub argument_name : List ℕ → List ℕ
argument_name text = drop 1 text

abbrev pub delegate_name : List ℕ → List ℕ
delegate_name text = take (length text - 1) text

-- The texts that need a name, in order, for a token of this kind with these bytes: a name, an argument's too, its own and
-- that of its assignment slot; a keyword its own, colon and all, and a primitive one also what it is without 'IfFail:'; a
-- delegate, a primitive name and an operator their own. What begins the body again, and all else, needs none.
abbrev pub named_by : Kind → List ℕ → List (List ℕ)
named_by kind.Name text = text ∷ setter text ∷ []
named_by kind.Primitive text = if is_restart text then [] else text ∷ []
named_by kind.Keyword text = text ∷ []
named_by kind.PrimitiveKeyword text = if is_restart_keyword text then [] else text ∷ option_to_list (unhandled text)
named_by kind.CapitalKeyword text = text ∷ []
named_by kind.Argument text = argument_name text ∷ setter (argument_name text) ∷ []
named_by kind.Delegate text = delegate_name text ∷ []
named_by kind.Operator text = text ∷ []
named_by _ text = []

abbrev pub needed : List ℕ → Token → List (List ℕ)
needed bytes t = named_by t.kind (text_of bytes t)

-- the names once tokens of these bytes were given theirs
abbrev pub names_after : List (List ℕ) → List ℕ → List Token → List (List ℕ)
names_after names bytes ts = fold (λ texts t. fold with_text texts (needed bytes t)) names ts

-- the symbol of a token of this kind with these bytes, from one place up to another, where its texts have their numbers
abbrev pub symbol_at : (List ℕ → ℕ) → Kind → List ℕ → ℕ → ℕ → Symbol
symbol_at number (kind.Integer i) text start end = sign.Integer i
symbol_at number kind.StringLiteral text start end = sign.Text (start + 1) (end - 1)
symbol_at number kind.Name text start end = sign.Name (number text) (number (setter text)) (reserved text)
symbol_at number kind.Primitive text start end = if is_restart text then sign.Restart else sign.Primitive (number text)
symbol_at number kind.Keyword text start end = sign.Keyword (number text)
symbol_at number kind.PrimitiveKeyword text start end =
    if is_restart_keyword text then sign.RestartKeyword else sign.PrimitiveKeyword (number text) (option_map number (unhandled text))
symbol_at number kind.CapitalKeyword text start end = sign.CapitalKeyword (number text) (is_text text (codes "IfFail:"))
symbol_at number kind.Argument text start end =
    sign.Argument (number (argument_name text)) (number (setter (argument_name text))) (reserved (argument_name text))
symbol_at number kind.Delegate text start end = sign.Delegate (number (delegate_name text)) (reserved (delegate_name text))
symbol_at number kind.Operator text start end = sign.Operator (number text) (role text)
symbol_at number kind.OpenParen text start end = sign.OpenParen
symbol_at number kind.CloseParen text start end = sign.CloseParen
symbol_at number kind.OpenBracket text start end = sign.OpenBracket
symbol_at number kind.CloseBracket text start end = sign.CloseBracket
symbol_at number kind.Bar text start end = sign.Bar
symbol_at number kind.Period text start end = sign.Period
symbol_at number kind.Caret text start end = sign.Caret
symbol_at number kind.End text start end = sign.End
symbol_at number (kind.Bad f) text start end = sign.Bad f

-- the symbol of a token of these bytes, where its texts are among the names
abbrev pub symbol_of : List (List ℕ) → List ℕ → Token → Symbol
symbol_of names bytes t = symbol_at (number_of names) t.kind (text_of bytes t) t.start t.end

-- A sign stands where its token does.
abbrev pub sign_of : List (List ℕ) → List ℕ → Token → Sign
sign_of names bytes t = record { symbol = symbol_of names bytes t; spot = record { line = t.line; column = t.column } }

-- the signs of a text, where these names were given before
abbrev pub signs : List (List ℕ) → List ℕ → List Sign
signs names bytes = map (sign_of (names_after names bytes (tokens bytes)) bytes) (tokens bytes)

-- Names that were given stay, with more behind them.
abbrev pub Keeps : List (List ℕ) → List (List ℕ) → Type 0
Keeps old new = (more : List (List ℕ)) × (new ≡ old ++ more)

-- the end of a text, or a fault
abbrev pub is_last : Symbol → Bool
is_last sign.End = true
is_last (sign.Bad f) = true
is_last _ = false

-- Of these signs the last one, and no other, is the end or a fault.
abbrev pub IsClosed : List Sign → Type 0
IsClosed [] = ⊥
IsClosed (s ∷ []) = is_last s.symbol ≡ true
IsClosed (s ∷ t ∷ rest) = (is_last s.symbol ≡ false) × IsClosed (t ∷ rest)
