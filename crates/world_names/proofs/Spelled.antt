-- The signs of a text weigh no more than its bytes, where a name weighs as much as the text that it has, among the names of the text and further ones.
use Rattle.std.specs.Prelude.{◌≡◌, ℕ, zero, suc, ◌+◌, ◌-◌, ◌≤◌, nat_eq, Bool, true, false, if◌then◌else◌, fold, Some, List, [], ◌∷◌, length, map, drop, take}
use Rattle.std.specs.List.{position_or_len}
use Rattle.std.specs.Cmp.Lexicographic.{pointwise}
use Rattle.std.proofs.Common.{ap, ◌∙◌, arith}
use Rattle.self_terms.specs.Names.{text_of as text_at, with_text}
use Rattle.self_tokens.specs.declared.symbols.Kind.{Kind}
use Rattle.self_tokens.specs.declared.symbols.Kind.TheVariants as kind
use Rattle.self_tokens.specs.declared.symbols.Token.{Token}
use Rattle.self_tokens.specs.declared.forms.Piece.{Piece}
use Rattle.self_tokens.specs.declared.forms.Piece.TheVariants.{Blank, Whole, Faulty}
use Rattle.self_tokens.specs.Forms.{piece, LiesWithin}
use Rattle.self_tokens.specs.Kinds.{ends_operand}
use Rattle.self_tokens.specs.Texts.{text_of}
use Rattle.self_tokens.specs.Tokens.{tokens, tokens_from, from_piece}
use Rattle.self_tokens.proofs.Within.{piece_within}
use Rattle.self_grammar.specs.declared.signs.Symbol.{Symbol}
use Rattle.self_signs.specs.Signs.{signs, sign_of, symbol_at, number_of, names_after, named_by, needed, argument_name, is_restart, is_restart_keyword}
use Rattle.world_build.proofs.BodyWeights.{weight}
use Rattle.world_build.proofs.Given.{IsIn, in_with, own_in, found}
use Rattle.world_build.proofs.Grown.{Extends}
use Rattle.world_build.proofs.Coded.{text_kept}
use Rattle.world_build.proofs.Wording.{named_text}
use Rattle.world_names.proofs.Worths.{sign_worth, sign_worths}

-- The bytes of tokens.

abbrev sizes : List Token → ℕ
sizes [] = 0
sizes (t ∷ ts) = t.end - t.start + sizes ts

piece_sizes : (bytes : List ℕ) (place size : ℕ) (b : Bool) (go : ℕ → Bool → List Token) (p : Piece) → LiesWithin p size → ((left : ℕ) (c : Bool) → sizes (go left c) ≤ size - 1 - left) →
    sizes (from_piece bytes place b go p) ≤ size
piece_sizes bytes place size b go (Blank n) w h = omega (arith, h (n - 1) b)
piece_sizes bytes place size b go (Whole k n) w h = omega (arith, w.0, w.1, h (n - 1) (ends_operand k))
piece_sizes bytes place size b go (Faulty f n) w h = omega arith

from_sizes : (bytes : List ℕ) (left : ℕ) (b : Bool) (place : ℕ) (rest : List ℕ) → sizes (tokens_from bytes left b place rest) ≤ length rest - left
from_sizes bytes left b place [] = omega arith
from_sizes bytes (suc left) b place (x ∷ rest) = omega (arith, from_sizes bytes left b (place + 1) rest)
from_sizes bytes zero b place (x ∷ rest) =
    omega (
      arith,
      piece_sizes bytes place (length (x ∷ rest)) b (λ left c. tokens_from bytes left c (place + 1) rest) (piece b (x ∷ rest)) (piece_within b (x ∷ rest) (omega arith))
          (λ left c. omega (arith, from_sizes bytes left c (place + 1) rest)),
    )

short_take : (n : ℕ) (xs : List ℕ) → length (take n xs) ≤ n
short_take zero xs = omega arith
short_take (suc n) [] = omega arith
short_take (suc n) (x ∷ xs) = omega (arith, short_take n xs)

short_drop : (n : ℕ) (xs : List ℕ) → length (drop n xs) ≤ length xs
short_drop zero xs = omega arith
short_drop (suc n) [] = omega arith
short_drop (suc n) (x ∷ xs) = omega (arith, short_drop n xs)

short_text : (bytes : List ℕ) (t : Token) → length (text_of bytes t) ≤ t.end - t.start
short_text bytes t = short_take (t.end - t.start) (drop t.start bytes)

-- The texts that tokens need have names.

in_texts : (us : List (List ℕ)) (names : List (List ℕ)) (t : List ℕ) → IsIn names t → IsIn (fold with_text names us) t
in_texts [] names t h = h
in_texts (u ∷ us) names t h = in_texts us (with_text names u) t (in_with names u t h)

in_after : (bytes : List ℕ) (ts : List Token) (names : List (List ℕ)) (t : List ℕ) → IsIn names t → IsIn (names_after names bytes ts) t
in_after bytes [] names t h = h
in_after bytes (x ∷ ts) names t h = in_after bytes ts (fold with_text names (needed bytes x)) t (in_texts (needed bytes x) names t h)

abbrev AllIn : List (List ℕ) → List (List ℕ) → Type 0
AllIn names [] = Unit {0}
AllIn names (u ∷ us) = IsIn names u × AllIn names us

all_texts : (us : List (List ℕ)) (names : List (List ℕ)) → AllIn (fold with_text names us) us
all_texts [] names = tt
all_texts (u ∷ us) names = (in_texts us (with_text names u) u (own_in names u), all_texts us (with_text names u))

all_after : (bytes : List ℕ) (ts : List Token) (names : List (List ℕ)) (us : List (List ℕ)) → AllIn names us → AllIn (names_after names bytes ts) us
all_after bytes ts names [] h = tt
all_after bytes ts names (u ∷ us) h = (in_after bytes ts names u h.0, all_after bytes ts names us h.1)

abbrev Needs : List (List ℕ) → List ℕ → List Token → Type 0
Needs names bytes [] = Unit {0}
Needs names bytes (t ∷ ts) = AllIn names (needed bytes t) × Needs names bytes ts

all_needed : (bytes : List ℕ) (ts : List Token) (names : List (List ℕ)) → Needs (names_after names bytes ts) bytes ts
all_needed bytes [] names = tt
all_needed bytes (t ∷ ts) names =
    (all_after bytes ts (fold with_text names (needed bytes t)) (needed bytes t) (all_texts (needed bytes t) names), all_needed bytes ts (fold with_text names (needed bytes t)))

own_weight : (names all : List (List ℕ)) (t : List ℕ) → Extends names all → IsIn names t → weight all (number_of names t) ≡ length t
own_weight names all t h is =
    let at : ℕ = position_or_len (pointwise nat_eq t) names in
    let up : 1 + at ≡ suc at = omega arith in
    let given : text_at names (number_of names t) ≡ Some t = ap (λ n. text_at names n) up ∙ (found 1 t names is).there in
    ap length (named_text all (number_of names t) t (text_kept names all (number_of names t) t h given))

one_of : (w : ℕ → ℕ) (b : Bool) (x y : Symbol) (n : ℕ) → sign_worth w x ≤ n → sign_worth w y ≤ n → sign_worth w (if b then x else y) ≤ n
one_of w true x y n h k = h
one_of w false x y n h k = k

symbol_weighs : (names all : List (List ℕ)) → Extends names all → (k : Kind) (t : List ℕ) (start end : ℕ) → AllIn names (named_by k t) → sign_worth (weight all) (symbol_at (number_of names) k t start end) ≤ length t
symbol_weighs names all e (kind.Integer i) t start end h = omega arith
symbol_weighs names all e kind.StringLiteral t start end h = omega arith
symbol_weighs names all e kind.Name t start end h = omega (arith, own_weight names all t e h.0)
symbol_weighs names all e kind.Primitive t start end h = one_of (weight all) (is_restart t) _ _ (length t) (omega arith) (omega arith)
symbol_weighs names all e kind.Keyword t start end h = omega (arith, own_weight names all t e h.0)
symbol_weighs names all e kind.PrimitiveKeyword t start end h = one_of (weight all) (is_restart_keyword t) _ _ (length t) (omega arith) (omega arith)
symbol_weighs names all e kind.CapitalKeyword t start end h = omega (arith, own_weight names all t e h.0)
symbol_weighs names all e kind.Argument t start end h = omega (arith, own_weight names all (argument_name t) e h.0, short_drop 1 t)
symbol_weighs names all e kind.Delegate t start end h = omega arith
symbol_weighs names all e kind.Operator t start end h = omega (arith, own_weight names all t e h.0)
symbol_weighs names all e kind.OpenParen t start end h = omega arith
symbol_weighs names all e kind.CloseParen t start end h = omega arith
symbol_weighs names all e kind.OpenBracket t start end h = omega arith
symbol_weighs names all e kind.CloseBracket t start end h = omega arith
symbol_weighs names all e kind.Bar t start end h = omega arith
symbol_weighs names all e kind.Period t start end h = omega arith
symbol_weighs names all e kind.Caret t start end h = omega arith
symbol_weighs names all e kind.End t start end h = omega arith
symbol_weighs names all e (kind.Bad x) t start end h = omega arith

tokens_weigh : (names all : List (List ℕ)) → Extends names all → (bytes : List ℕ) (ts : List Token) → Needs names bytes ts → sign_worths (weight all) (map (sign_of names bytes) ts) ≤ sizes ts
tokens_weigh names all e bytes [] h = omega arith
tokens_weigh names all e bytes (t ∷ ts) h =
    omega (arith, symbol_weighs names all e t.kind (text_of bytes t) t.start t.end h.0, short_text bytes t, tokens_weigh names all e bytes ts h.1)

-- the names of all signs
pub signs_weigh : (known all : List (List ℕ)) (bytes : List ℕ) → Extends (names_after known bytes (tokens bytes)) all → sign_worths (weight all) (signs known bytes) ≤ length bytes
signs_weigh known all bytes e =
    omega (arith, tokens_weigh (names_after known bytes (tokens bytes)) all e bytes (tokens bytes) (all_needed bytes (tokens bytes) known), from_sizes bytes 0 false 0 bytes)
