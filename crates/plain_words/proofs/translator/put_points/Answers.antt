use Rattle.std.proofs.Common.{[], ◌∷◌, append_assoc}
use Rattle.plain_words.specs.Units.{times}
use Rattle.plain_words.proofs.Growing.{times_more}
use Rattle.plain_words.proofs.translator.put_points.Goals as goal

pub loop-word-preserved : goal.loop-word-preserved
loop-word-preserved c =
    let more = times_more c.loop-word._word c.args.point in
    let joined = append_assoc c.args.points.now.items (times c.loop-word._word c.args.point) (c.args.point ∷ []) in
    cc (c.in_ok-extend_from_slice.ensures.items, c.loop-word.invariant)
