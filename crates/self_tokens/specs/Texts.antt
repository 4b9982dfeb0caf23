-- What the bytes of a token stand for.
use Rattle.std.specs.Prelude.{◌≤◌, ℕ, Bool, true, false, ◌==◌, if◌then◌else◌, List, [], ◌∷◌, slice_range}
use Rattle.self_tokens.specs.declared.symbols.Token.{Token}

-- A token's bytes lie within a text of so many.
abbrev pub LiesIn : ℕ → Token → Type 0
LiesIn size t = (t.start ≤ t.end) × (t.end ≤ size)

-- the bytes of a token
abbrev pub text_of : List ℕ → Token → List ℕ
text_of bytes t = slice_range bytes t.start t.end

-- The byte that an escape letter stands for: n newline, t tab, r carriage return, 0 the byte 0; \ ' and " themselves.
abbrev pub escaped_byte : ℕ → ℕ
escaped_byte b =
    if b == 110 then 10
    else if b == 116 then 9
    else if b == 114 then 13
    else if b == 48 then 0
    else b

-- The bytes that the text of a string stands for, with a backslash before its first one or not.
abbrev pub unescaped_from : Bool → List ℕ → List ℕ
unescaped_from escaped [] = []
unescaped_from true (b ∷ text) = escaped_byte b ∷ unescaped_from false text
unescaped_from false (b ∷ text) = if b == 92 then unescaped_from true text else b ∷ unescaped_from false text

-- The bytes that the text between the quotes of a string stands for.
abbrev pub unescaped : List ℕ → List ℕ
unescaped text = unescaped_from false text
