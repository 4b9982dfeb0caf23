-- The words of an entry by the kind of its body.
use Rattle.std.proofs.Common.{◌≡◌, ◌*◌, ◌∙◌, ap, length}
use Rattle.std.specs.Prelude.{Bool, false}
use Rattle.self_terms.specs.declared.bodies.Body.{Body}
use Rattle.plain_words.specs.declared.references.References.{References}
use Rattle.plain_words.specs.Code.{method_code, entered_code}
use Rattle.plain_words.specs.Units.{owns_context, of_block, numbered, frame_words, initial_words, entry_code}

pub entry_is : (r : References) (b : Body) (owns block : Bool) → owns_context b ≡ owns → of_block b ≡ block
    → entry_code r b ≡ entered_code owns block (4 * frame_words b) (numbered r.contexts) (length b.arguments) (initial_words r b)
entry_is r b owns block e f =
    ap (λ o. entered_code o (of_block b) (4 * frame_words b) (numbered r.contexts) (length b.arguments) (initial_words r b)) e
    ∙ ap (λ k. entered_code owns k (4 * frame_words b) (numbered r.contexts) (length b.arguments) (initial_words r b)) f

pub method_entry : (r : References) (b : Body) → owns_context b ≡ false → of_block b ≡ false → entry_code r b ≡ method_code (4 * frame_words b) (length b.arguments) (initial_words r b)
method_entry r b e f = entry_is r b false false e f
