use Rattle.std.proofs.Common.{◌+◌, [], ◌∷◌, append_assoc, refl, arith}
use Rattle.plain_words.specs.Code.{store, cell_offset, cell_arguments}
use Rattle.plain_words.proofs.Growing.{cells_more}
use Rattle.plain_words.proofs.translator.put_cell_arguments.Goals as goal

pub loop-at-preserved : goal.loop-at-preserved
loop-at-preserved c =
    let more = cells_more c.loop-at.at 25 0 (25 + c.loop-at.at) c.loop-at.at refl (omega arith) in
    let joined = append_assoc c.args.code.now.items (cell_arguments 25 0 c.loop-at.at) (store (25 + c.loop-at.at) 6 (cell_offset c.loop-at.at) ∷ []) in
    cc (c.in_ok-put.ensures, c.store.ensures, c.cell_offset.ensures, c.loop-at.invariant)
