use Rattle.std.proofs.Common.{◌+◌, [], ◌∷◌, append_assoc, refl, arith}
use Rattle.frame_walk.specs.Places.{local_offset}
use Rattle.plain_words.specs.Code.{store, argument_stores}
use Rattle.plain_words.proofs.Growing.{stores_more}
use Rattle.plain_words.proofs.translator.put_argument_stores.Goals as goal

pub loop-at-preserved : goal.loop-at-preserved
loop-at-preserved c =
    let more = stores_more c.loop-at.at 25 0 (25 + c.loop-at.at) c.loop-at.at refl (omega arith) in
    let joined = append_assoc c.args.code.now.items (argument_stores 25 0 c.loop-at.at) (store (25 + c.loop-at.at) 14 (local_offset c.loop-at.at) ∷ []) in
    cc (c.in_ok-put.ensures, c.store.ensures, c.local_offset.ensures, c.loop-at.invariant)
