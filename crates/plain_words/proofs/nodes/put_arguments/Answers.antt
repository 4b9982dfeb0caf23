use Rattle.std.proofs.Common.{◌+◌, [], ◌∷◌, append_assoc, refl}
use Rattle.plain_words.specs.Code.{take, arguments_code}
use Rattle.plain_words.proofs.Growing.{arguments_more}
use Rattle.plain_words.proofs.nodes.put_arguments.Goals as goal

pub loop-at-preserved : goal.loop-at-preserved
loop-at-preserved c =
    let more = arguments_more c.loop-at.at 9 c.args.locals c.args.k (9 + c.loop-at.at) (c.args.k + c.loop-at.at) refl refl in
    let joined = append_assoc c.args.code.now.items (arguments_code 9 c.args.locals c.args.k c.loop-at.at) (take (9 + c.loop-at.at) c.args.locals (c.args.k + c.loop-at.at) ∷ []) in
    cc (c.in_ok-put.ensures, c.take.ensures, c.loop-at.invariant)
