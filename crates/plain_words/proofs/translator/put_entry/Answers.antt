use Rattle.std.proofs.Common.{Bool, ◌≡◌, ◌++◌, ◌*◌, ap, ◌∙◌, length}
use Rattle.plain_words.specs.Code.{frame_code, start_code, entry_kept}
use Rattle.plain_words.specs.Units.{frame_words, initial_words, numbered, owns_context, of_block}
use Rattle.plain_words.proofs.Growing.{three_join}
use Rattle.plain_words.proofs.translator.put_entry.Goals as goal

pub returns : goal.returns
returns c =
    let old = c.args.code.now.items in
    let b = c.args.body.now in
    let r = c.args.references.now in
    let kept = λ (owns block : Bool). entry_kept owns block (numbered r.contexts) (length b.arguments) (initial_words r b) in
    let one : c.put_frame.new.code.items ≡ old ++ frame_code (4 * frame_words b) = c.in_ok-put_frame.ensures ∙ ap (λ w. old ++ frame_code (4 * w)) c.frame_words_of.ensures.value in
    let two : c.put_start.new.code.items ≡ c.put_frame.new.code.items ++ start_code (of_block b) = c.in_ok-put_start.ensures ∙ ap (λ f. c.put_frame.new.code.items ++ start_code f) c.of_block-block.ensures in
    let three : c.put_kept.new.code.items ≡ c.put_start.new.code.items ++ kept (owns_context b) (of_block b) =
    c.in_ok-put_kept.ensures ∙ ap (λ o. c.put_start.new.code.items ++ kept o c.of_block-block.result) c.owns_context.ensures ∙ ap (λ f. c.put_start.new.code.items ++ kept (owns_context b) f) c.of_block-block.ensures in
    three_join old c.put_frame.new.code.items c.put_start.new.code.items c.put_kept.new.code.items (frame_code (4 * frame_words b)) (start_code (of_block b)) (kept (owns_context b) (of_block b)) one two three
