-- The tokens of a text lie within it.
use Rattle.std.proofs.Common.{◌≡◌, ◌≤◌, ◌<◌, ◌+◌, ◌-◌, ℕ, zero, suc, Bool, false, List, [], ◌∷◌, length, arith}
use Rattle.std.specs.Prelude.{Result, Ok, Err, IfOk}
use Rattle.std.specs.List.{All}
use Rattle.std.proofs.lemmas.List.Elements.{All-nil, All-cons}
use Rattle.self_tokens.specs.declared.forms.Piece.{Piece}
use Rattle.self_tokens.specs.declared.forms.Piece.TheVariants.{Blank, Whole, Faulty}
use Rattle.self_tokens.specs.declared.symbols.Kind.TheVariants as kind
use Rattle.self_tokens.specs.declared.symbols.Token.{Token}
use Rattle.self_tokens.specs.Kinds.{ends_operand}
use Rattle.self_tokens.specs.Forms.{piece, LiesWithin}
use Rattle.self_tokens.specs.Tokens.{tokens, tokens_from, from_piece, token}
use Rattle.self_tokens.specs.Texts.{LiesIn}
use Rattle.self_tokens.proofs.Within.{piece_within}

piece_in : (bytes : List ℕ) (place size : ℕ) (behind : Bool) (go : ℕ → Bool → List Token) (p : Piece) → place + size ≡ length bytes → 0 < size → LiesWithin p size →
    ((left : ℕ) (b : Bool) → left < size → All (LiesIn (length bytes)) (go left b)) → All (LiesIn (length bytes)) (from_piece bytes place behind go p)
piece_in bytes place size behind go (Blank n) e some w h = h (n - 1) behind (omega arith)
piece_in bytes place size behind go (Whole k n) e some w h =
    All-cons (LiesIn (length bytes)) (token bytes k place (place + n)) (go (n - 1) (ends_operand k)) (omega arith, omega arith) (h (n - 1) (ends_operand k) (omega arith))
piece_in bytes place size behind go (Faulty f n) e some w h =
    All-cons (LiesIn (length bytes)) (token bytes (kind.Bad f) (place + n) (place + n)) [] (omega arith, omega arith) (All-nil (LiesIn (length bytes)))

from_in : (bytes rest : List ℕ) (left place : ℕ) (behind : Bool) → left ≤ length rest → place + length rest ≡ length bytes →
    All (LiesIn (length bytes)) (tokens_from bytes left behind place rest)
from_in bytes [] left place behind le e =
    All-cons (LiesIn (length bytes)) (token bytes kind.End place place) [] (omega arith, omega arith) (All-nil (LiesIn (length bytes)))
from_in bytes (b ∷ rest) (suc left) place behind le e = from_in bytes rest left (place + 1) behind (omega arith) (omega arith)
from_in bytes (b ∷ rest) zero place behind le e =
    piece_in bytes place (length (b ∷ rest)) behind _ (piece behind (b ∷ rest)) e (omega arith) (piece_within behind (b ∷ rest) (omega arith))
    (λ left c lt. from_in bytes rest left (place + 1) c (omega arith) (omega arith))

pub tokens_in : (bytes : List ℕ) → All (LiesIn (length bytes)) (tokens bytes)
tokens_in bytes = from_in bytes bytes 0 0 false (omega arith) (omega arith)

pub list_in : (E : Type 0) (bytes : List ℕ) (r : Result (List Token) E) → IfOk r (λ list. list ≡ tokens bytes) → IfOk r (λ list. All (LiesIn (length bytes)) list)
list_in E bytes (Ok list) e = rw e (tokens_in bytes)
list_in E bytes (Err x) e = tt
