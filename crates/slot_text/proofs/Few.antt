-- What an edit's text says is little.
use Rattle.std.proofs.Common.{◌≡◌, ℕ, ◌+◌, ◌*◌, ◌≤◌, List, length, ap, arith}
use Rattle.std.proofs.lemmas.List.{length-map}
use Rattle.self_tokens.specs.Tokens.{tokens}
use Rattle.self_grammar.specs.declared.pieces.Item.{Item}
use Rattle.self_grammar.specs.Spelling.{edit, items_of}
use Rattle.self_grammar.proofs.Few.{few_edit_items}
use Rattle.self_reader.specs.declared.texts.TheConstants.{LIMITS}
use Rattle.self_signs.specs.Signs.{signs, sign_of, names_after}
use Rattle.self_signs.proofs.SignLaws.{tokens_few}
use Rattle.slot_text.specs.Contents.{AreOfEdit}

pub few_of_edit : (names : List (List ℕ)) (bytes : List ℕ) (items : List Item) → length bytes ≤ 1048576 → AreOfEdit names bytes items → length items ≤ 3000000
few_of_edit names bytes items short read =
    let text = read.1 in
    let bound : length (items_of (edit LIMITS text.0)) ≤ 2 * length (signs read.0 bytes) + 65536 + 1 = few_edit_items LIMITS (signs read.0 bytes) text.0 text.1 in
    let same : length items ≡ length (items_of (edit LIMITS text.0)) = ap (λ is. length is) text.2 in
    let signs : length (signs read.0 bytes) ≡ length (tokens bytes) = length-map (tokens bytes) (sign_of (names_after read.0 bytes (tokens bytes)) bytes) in
    omega (arith, bound, same, signs, tokens_few bytes, short)
