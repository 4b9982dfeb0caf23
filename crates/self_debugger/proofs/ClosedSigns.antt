-- The last sign of a text is its end or a fault.
use Rattle.std.specs.Prelude.{ℕ, zero, suc, ◌+◌, ◌-◌, Bool, false, List, [], ◌∷◌, map, refl}
use Rattle.std.proofs.Common.{inl, inr}
use Rattle.self_tokens.specs.declared.symbols.Token.{Token}
use Rattle.self_tokens.specs.declared.forms.Piece.{Piece}
use Rattle.self_tokens.specs.declared.forms.Piece.TheVariants.{Blank, Whole, Faulty}
use Rattle.self_tokens.specs.Forms.{piece}
use Rattle.self_tokens.specs.Kinds.{ends_operand}
use Rattle.self_tokens.specs.Tokens.{token, tokens, tokens_from, from_piece}
use Rattle.self_grammar.specs.declared.signs.Sign.{Sign}
use Rattle.self_grammar.specs.Refusal.{IsEnded}
use Rattle.self_signs.specs.Signs.{signs, sign_of, names_after}

closed_more : (x : Sign) (xs : List Sign) → IsEnded xs → IsEnded (x ∷ xs)
closed_more x [] c = absurd c
closed_more x (y ∷ ys) c = c

abbrev signs_of : List (List ℕ) → List ℕ → List Token → List Sign
signs_of names bytes ts = map (sign_of names bytes) ts

closed_piece : (names : List (List ℕ)) (bytes : List ℕ) (place : ℕ) (b : Bool) (go : ℕ → Bool → List Token) → ((left : ℕ) (c : Bool) → IsEnded (signs_of names bytes (go left c)))
    → (p : Piece) → IsEnded (signs_of names bytes (from_piece bytes place b go p))
closed_piece names bytes place b go h (Blank n) = h (n - 1) b
closed_piece names bytes place b go h (Whole k n) = closed_more (sign_of names bytes (token bytes k place (place + n))) (signs_of names bytes (go (n - 1) (ends_operand k))) (h (n - 1) (ends_operand k))
closed_piece names bytes place b go h (Faulty f n) = inr (f, refl)

closed_from : (names : List (List ℕ)) (bytes : List ℕ) (left : ℕ) (b : Bool) (place : ℕ) (rest : List ℕ) → IsEnded (signs_of names bytes (tokens_from bytes left b place rest))
closed_from names bytes left b place [] = inl refl
closed_from names bytes (suc left) b place (x ∷ rest) = closed_from names bytes left b (place + 1) rest
closed_from names bytes zero b place (x ∷ rest) =
    closed_piece names bytes place b (λ left c. tokens_from bytes left c (place + 1) rest) (λ left c. closed_from names bytes left c (place + 1) rest) (piece b (x ∷ rest))

pub signs_closed : (given : List (List ℕ)) (bytes : List ℕ) → IsEnded (signs given bytes)
signs_closed given bytes = closed_from (names_after given bytes (tokens bytes)) bytes 0 false 0 bytes
