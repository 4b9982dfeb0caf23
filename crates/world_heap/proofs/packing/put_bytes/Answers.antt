use Rattle.std.proofs.Common.{◌≡◌, ◌∙◌, ◌∷◌, [], ◌+◌, ◌-◌, ◌*◌, ◌/◌, ◌++◌, ap, drop, length}
use Rattle.heap_cells.specs.Shapes.{first_word, packed_in}
use Rattle.world_heap.proofs.Fronts.{take_rest}
use Rattle.world_heap.proofs.KindLemmas.{word_more}
use Rattle.world_heap.proofs.packing.put_bytes.Goals as goal

pub loop-at-preserved : goal.loop-at-preserved
loop-at-preserved c =
    let pushed : c.push.new.self.items ≡ c.loop-at.words.items ++ first_word (drop (4 * c.loop-at.at) c.args.bytes.now) ∷ [] =
    c.in_ok-push.ensures.items ∙ ap (λ x. c.loop-at.words.items ++ x ∷ []) (c.first_word.ensures ∙ ap first_word (take_rest c.args.bytes.now (4 * c.loop-at.at))) in
    ap (λ ws. ws ++ packed_in ((length c.args.bytes.now + 3) / 4 - (c.loop-at.at + 1)) (drop (4 * (c.loop-at.at + 1)) c.args.bytes.now)) pushed
    ∙ word_more c.loop-at.words.items c.args.bytes.now ((length c.args.bytes.now + 3) / 4) c.loop-at.at c.loop-at-test.true
    ∙ c.loop-at.invariant
