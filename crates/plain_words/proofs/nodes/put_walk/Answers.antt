use Rattle.std.proofs.Common.{[], ◌∷◌, append_assoc}
use Rattle.plain_words.specs.Code.{load, walk}
use Rattle.plain_words.proofs.Growing.{walk_more}
use Rattle.plain_words.proofs.nodes.put_walk.Goals as goal

pub loop-at-preserved : goal.loop-at-preserved
loop-at-preserved c =
    let more = walk_more c.loop-at._at in
    let joined = append_assoc c.args.code.now.items (walk c.loop-at._at) (load 1 1 3 ∷ []) in
    cc (c.in_ok-put.ensures, c.load.ensures, c.loop-at.invariant)
