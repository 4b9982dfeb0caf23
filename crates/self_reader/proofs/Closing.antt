-- The signs of a text are whole, and what a world says is little.
use Rattle.std.proofs.Common.{◌≡◌, ℕ, ◌+◌, ◌*◌, ◌≤◌, List, [], ◌∷◌, length, ap, arith}
use Rattle.std.proofs.lemmas.List.{length-map}
use Rattle.self_tokens.specs.Tokens.{tokens}
use Rattle.self_grammar.specs.declared.signs.Sign.{Sign}
use Rattle.self_grammar.specs.declared.pieces.Item.{Item}
use Rattle.self_grammar.specs.Grammar as g
use Rattle.self_grammar.specs.Spelling.{world, items_of}
use Rattle.self_grammar.proofs.Few.{few_items}
use Rattle.self_reader.specs.declared.texts.TheConstants.{LIMITS}
use Rattle.self_signs.specs.Signs.{IsClosed, signs, sign_of, names_after}
use Rattle.self_reader.specs.Texts.{IsWhole, AreRead, known}
use Rattle.self_signs.proofs.SignLaws.{tokens_few}

pub whole : (ss : List Sign) → IsClosed ss → IsWhole ss
whole [] h = h
whole (x ∷ []) h = h
whole (x ∷ y ∷ ys) h = whole (y ∷ ys) h.1

signs_few : (bytes : List ℕ) → length (signs known bytes) ≤ length bytes + 1
signs_few bytes =
    let same = length-map (tokens bytes) (sign_of (names_after known bytes (tokens bytes)) bytes) in
    omega (arith, same, tokens_few bytes)

pub few : (bytes : List ℕ) (given : List Sign) (said : List Item) (names : ℕ) → length bytes ≤ 1048576 → given ≡ signs known bytes →
    AreRead g.World (world LIMITS) given said → names ≤ 2 + 2 * (length bytes + 1) → length said + names ≤ 20000000
few bytes given said names small e r h =
    let bound : length (items_of (world LIMITS r.0)) ≤ 2 * length given + 65536 + 1 = few_items LIMITS given r.0 r.1 in
    let same : length said ≡ length (items_of (world LIMITS r.0)) = ap (λ is. length is) r.2 in
    let short : length given ≡ length (signs known bytes) = ap (λ ss. length ss) e in
    omega (arith, bound, same, short, signs_few bytes, small, h)
