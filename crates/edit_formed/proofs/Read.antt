-- The items of an edit's text that is read are right.
use Rattle.std.specs.Prelude.{ℕ, ◌≤◌, ◌++◌, ◌∷◌, false, None, List, [], length}
use Rattle.std.proofs.Common.{sym, subst, arith}
use Rattle.self_tokens.specs.Tokens.{tokens}
use Rattle.self_grammar.specs.declared.pieces.Item.{Item}
use Rattle.self_grammar.specs.Spelling.{edit, items_of}
use Rattle.self_signs.specs.Signs.{signs, names_after}
use Rattle.self_reader.specs.declared.texts.TheConstants.{LIMITS}
use Rattle.source_model.specs.Canon.{Each}
use Rattle.source_model.specs.Formed.{IsSaid}
use Rattle.source_model.specs.Told as source
use Rattle.world_build.specs.SlotTexts.{slot_text}
use Rattle.world_build.proofs.Orders.{frame, Keeps}
use Rattle.world_formed.proofs.Said.{edit_orders}
use Rattle.world_formed.proofs.Spells.{signs_spell}
use Rattle.slot_text.specs.Contents.{AreOfEdit}
use Rattle.edit_formed.specs.Formed.{names_told}
use Rattle.edit_formed.proofs.Objects.{AreBodied, edit_has_bodies}
use Rattle.edit_formed.proofs.First.{Opened, Stands, edit_opens, first_stands}
use Rattle.edit_formed.proofs.Names.{keeps_speaks, items_said}

pub edit_keeps : (names : List (List ℕ)) (bytes : List ℕ) (items : List Item) → AreOfEdit names bytes items → Keeps names 0 (frame 0 0 false [] ∷ []) None items
edit_keeps names bytes items read =
    let text = read.1 in
    let low : 64 ≤ 64 = omega arith in
    let all : List (List ℕ) = names_after read.0 bytes (tokens bytes) in
    subst (λ is. Keeps names 0 (frame 0 0 false [] ∷ []) None is) (sym text.2)
    (subst (λ ns. Keeps ns 0 (frame 0 0 false [] ∷ []) None (items_of (edit LIMITS text.0))) (sym read.2)
    (edit_orders LIMITS all (signs read.0 bytes) text.0 low text.1 (signs_spell read.0 bytes)))

pub edit_says : (names : List (List ℕ)) (bytes : List ℕ) (items : List Item) → AreOfEdit names bytes items → (more : List (List ℕ)) →
    Each (IsSaid (names_told names bytes items ++ more) (length (slot_text names bytes items).strings)) (source.told (slot_text names bytes items))
edit_says names bytes items read more = items_said names more bytes items (keeps_speaks names 0 (frame 0 0 false [] ∷ []) None items (edit_keeps names bytes items read))

pub edit_codes : (names : List (List ℕ)) (bytes : List ℕ) (items : List Item) → AreOfEdit names bytes items → AreBodied items
edit_codes names bytes items read = let text = read.1 in subst AreBodied (sym text.2) (edit_has_bodies LIMITS (signs read.0 bytes) text.0 text.1)

pub edit_stands : (names : List (List ℕ)) (bytes : List ℕ) (items : List Item) → AreOfEdit names bytes items → Stands (slot_text names bytes items)
edit_stands names bytes items read = let text = read.1 in first_stands names bytes items (subst Opened (sym text.2) (edit_opens LIMITS text.0))
