-- The tokens from one piece to the next.
use Rattle.std.proofs.Common.{◌≡◌, ◌≤◌, ◌<◌, ◌+◌, ◌-◌, ℕ, zero, suc, Bool, List, [], ◌∷◌, ◌++◌, append_assoc, length, drop, length-drop, refl, sym, ap, ◌∙◌, arith}
use Rattle.self_tokens.specs.declared.forms.Piece.TheVariants.{Blank, Whole, Faulty}
use Rattle.self_tokens.specs.declared.symbols.Token.{Token}
use Rattle.std.proofs.lemmas.List.{drop-drop}
use Rattle.self_tokens.specs.declared.symbols.Kind.{Kind}
use Rattle.self_tokens.specs.declared.symbols.Kind.TheVariants as kind
use Rattle.self_tokens.specs.declared.symbols.Fault.{Fault}
use Rattle.self_tokens.specs.Kinds.{ends_operand}
use Rattle.self_tokens.specs.Forms.{piece, LiesWithin}
use Rattle.self_tokens.specs.Tokens.{tokens_from, from_piece, token, tokens, IsPlace}

plus_zero : (n : ℕ) → n + 0 ≡ n
plus_zero n = omega arith

plus_suc : (n m : ℕ) → n + 1 + m ≡ n + suc m
plus_suc n m = omega arith

less_one : (m : ℕ) → suc m - 1 ≡ m
less_one m = omega arith

-- The bytes that belong to a piece add no tokens.
pub skips : (bytes : List ℕ) (n : ℕ) (rest : List ℕ) (behind : Bool) (place : ℕ) → n ≤ length rest →
    tokens_from bytes n behind place rest ≡ tokens_from bytes 0 behind (place + n) (drop n rest)
skips bytes zero rest behind place le = ap (λ x. tokens_from bytes 0 behind x rest) (sym (plus_zero place))
skips bytes (suc n) [] behind place le = absurd (omega arith)
skips bytes (suc n) (b ∷ rest) behind place le =
    skips bytes n rest behind (place + 1) (omega arith) ∙ ap (λ x. tokens_from bytes 0 behind x (drop n rest)) (plus_suc place n)

pub passes : (bytes : List ℕ) (n : ℕ) (rest : List ℕ) (behind : Bool) (place : ℕ) → 1 ≤ n → n ≤ length rest →
    tokens_from bytes (n - 1) behind (place + 1) (drop 1 rest) ≡ tokens_from bytes 0 behind (place + n) (drop n rest)
passes bytes zero rest behind place pos le = absurd (omega arith)
passes bytes (suc n) [] behind place pos le = absurd (omega arith)
passes bytes (suc n) (b ∷ rest) behind place pos le =
    ap (λ x. tokens_from bytes x behind (place + 1) rest) (less_one n)
    ∙ skips bytes n rest behind (place + 1) (omega arith)
    ∙ ap (λ x. tokens_from bytes 0 behind x (drop n rest)) (plus_suc place n)

-- A piece begins where bytes are left.
pub begins : (bytes rest : List ℕ) (behind : Bool) (place : ℕ) → 0 < length rest →
    tokens_from bytes 0 behind place rest ≡ from_piece bytes place behind (λ left b. tokens_from bytes left b (place + 1) (drop 1 rest)) (piece behind rest)
begins bytes [] behind place some = absurd (omega arith)
begins bytes (b ∷ rest) behind place some = refl

-- What the piece at a place makes of the tokens from there on.
pub after_blank : (bytes : List ℕ) (behind : Bool) (place n : ℕ) → place < length bytes → Blank n ≡ piece behind (drop place bytes) → LiesWithin (Blank n) (length (drop place bytes)) →
    tokens_from bytes 0 behind place (drop place bytes) ≡ tokens_from bytes 0 behind (place + n) (drop (place + n) bytes)
after_blank bytes behind place n lt is within =
    let l = length-drop place bytes in
    begins bytes (drop place bytes) behind place (omega arith)
    ∙ ap (λ p. from_piece bytes place behind (λ left b. tokens_from bytes left b (place + 1) (drop 1 (drop place bytes))) p) (sym is)
    ∙ passes bytes n (drop place bytes) behind place within.0 within.1
    ∙ ap (λ r. tokens_from bytes 0 behind (place + n) r) (drop-drop n place bytes)

pub after_whole : (bytes : List ℕ) (behind : Bool) (place n : ℕ) (k : Kind) → place < length bytes → Whole k n ≡ piece behind (drop place bytes) → LiesWithin (Whole k n) (length (drop place bytes)) →
    tokens_from bytes 0 behind place (drop place bytes) ≡ token bytes k place (place + n) ∷ tokens_from bytes 0 (ends_operand k) (place + n) (drop (place + n) bytes)
after_whole bytes behind place n k lt is within =
    let l = length-drop place bytes in
    begins bytes (drop place bytes) behind place (omega arith)
    ∙ ap (λ p. from_piece bytes place behind (λ left b. tokens_from bytes left b (place + 1) (drop 1 (drop place bytes))) p) (sym is)
    ∙ ap (λ r. token bytes k place (place + n) ∷ r)
    (passes bytes n (drop place bytes) (ends_operand k) place within.0 within.1
    ∙ ap (λ r. tokens_from bytes 0 (ends_operand k) (place + n) r) (drop-drop n place bytes))

pub after_faulty : (bytes : List ℕ) (behind : Bool) (place n : ℕ) (f : Fault) → place < length bytes → Faulty f n ≡ piece behind (drop place bytes) →
    tokens_from bytes 0 behind place (drop place bytes) ≡ token bytes (kind.Bad f) (place + n) (place + n) ∷ []
after_faulty bytes behind place n f lt is =
    let l = length-drop place bytes in
    begins bytes (drop place bytes) behind place (omega arith)
    ∙ ap (λ p. from_piece bytes place behind (λ left b. tokens_from bytes left b (place + 1) (drop 1 (drop place bytes))) p) (sym is)

-- A token with the line and the column of its place is the token there.
pub token_is : (bytes : List ℕ) (t : Token) (k : Kind) (place end line column : ℕ) → t ≡ record { kind = k; start = place; end = end; line = line; column = column } →
    IsPlace bytes place line column → t ≡ token bytes k place end
token_is bytes t k place end line column is p = is ∙ rw (p.line_is, p.column_is) refl

pub joined : (all xs ys zs : List Token) (t : Token) → all ≡ xs ++ (t ∷ zs) → ys ≡ xs ++ t ∷ [] → all ≡ ys ++ zs
joined all xs ys zs t a b = a ∙ sym (append_assoc xs (t ∷ []) zs) ∙ ap (λ x. x ++ zs) (sym b)

-- The list so far, one piece on.
pub more_blank : (bytes : List ℕ) (list : List Token) (behind : Bool) (place n next : ℕ) → next ≡ place + n →
    tokens bytes ≡ list ++ tokens_from bytes 0 behind place (drop place bytes) →
    place < length bytes → Blank n ≡ piece behind (drop place bytes) → LiesWithin (Blank n) (length (drop place bytes)) →
    tokens bytes ≡ list ++ tokens_from bytes 0 behind next (drop next bytes)
more_blank bytes list behind place n next e so lt is within = rw e (so ∙ ap (λ r. list ++ r) (after_blank bytes behind place n lt is within))

pub more_whole : (bytes : List ℕ) (list longer : List Token) (t : Token) (behind then : Bool) (place n next line column : ℕ) (k : Kind) → next ≡ place + n → then ≡ ends_operand k →
    tokens bytes ≡ list ++ tokens_from bytes 0 behind place (drop place bytes) →
    place < length bytes → Whole k n ≡ piece behind (drop place bytes) → LiesWithin (Whole k n) (length (drop place bytes)) →
    IsPlace bytes place line column → t ≡ record { kind = k; start = place; end = next; line = line; column = column } → longer ≡ list ++ t ∷ [] →
    tokens bytes ≡ longer ++ tokens_from bytes 0 then next (drop next bytes)
more_whole bytes list longer t behind then place n next line column k e b so lt is within p made long =
    let here : t ≡ token bytes k place (place + n) = token_is bytes t k place next line column made p ∙ ap (λ x. token bytes k place x) e in
    rw (e, b) (joined (tokens bytes) list longer (tokens_from bytes 0 (ends_operand k) (place + n) (drop (place + n) bytes)) t
    (so ∙ ap (λ r. list ++ r) (after_whole bytes behind place n k lt is within ∙ ap (λ x. x ∷ tokens_from bytes 0 (ends_operand k) (place + n) (drop (place + n) bytes)) (sym here)))
    long)

pub more_faulty : (bytes : List ℕ) (list longer : List Token) (t : Token) (behind : Bool) (place n next line column : ℕ) (f : Fault) → next ≡ place + n →
    tokens bytes ≡ list ++ tokens_from bytes 0 behind place (drop place bytes) →
    place < length bytes → Faulty f n ≡ piece behind (drop place bytes) →
    IsPlace bytes next line column → t ≡ record { kind = kind.Bad f; start = next; end = next; line = line; column = column } → longer ≡ list ++ t ∷ [] →
    longer ≡ tokens bytes
more_faulty bytes list longer t behind place n next line column f e so lt is p made long =
    let here : t ≡ token bytes (kind.Bad f) (place + n) (place + n) = token_is bytes t (kind.Bad f) next next line column made p ∙ ap (λ x. token bytes (kind.Bad f) x x) e in
    long ∙ ap (λ x. list ++ x ∷ []) here ∙ ap (λ r. list ++ r) (sym (after_faulty bytes behind place n f lt is)) ∙ sym so
