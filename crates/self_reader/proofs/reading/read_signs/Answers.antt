use Rattle.std.proofs.Common.{ap, ◌∙◌, length, ◌≡◌, Vec, Global, arith}
use Rattle.self_grammar.specs.declared.pieces.Item.{Item}
use Rattle.self_reader.specs.Reading.{behind, all_said}
use Rattle.self_reader.proofs.Said.{no_sign, behind_none, said_more, said_stops, said_whole}
use Rattle.self_reader.proofs.reading.read_signs.Goals as goal

pub loop-sign-init : goal.loop-sign-init
loop-sign-init c =
    ap (λ is. behind is (all_said c.args.limits c.args.start c.args.signs.now)) c.new-items.ensures.items ∙ behind_none (all_said c.args.limits c.args.start c.args.signs.now)

pub returns-in-Err : goal.returns-in-Err
returns-in-Err c =
    said_stops c.args.limits c.args.signs.now c.loop-sign.sign-index no_sign c.loop-sign.reader c.loop-sign.items.items (all_said c.args.limits c.args.start c.args.signs.now) (Vec Item Global) (λ v. v.items) c.in-Err.stop
    c.loop-sign-test.true c.loop-sign.invariant c.in-Err.ensures.reader

pub loop-sign-preserved : goal.loop-sign-preserved
loop-sign-preserved c =
    said_more c.args.limits c.args.signs.now c.loop-sign.sign-index no_sign c.loop-sign.reader c.loop-sign.items.items (all_said c.args.limits c.args.start c.args.signs.now) c.in-Ok.next c.feed.new.items.items
    c.loop-sign-test.true c.loop-sign.invariant c.in-Ok.ensures.reader c.in-Ok.ensures.items

pub returns : goal.returns
returns c =
    let i : c.loop-sign.sign-index ≡ length c.args.signs.now = omega arith in
    said_whole c.args.limits c.args.signs.now c.loop-sign.reader c.loop-sign.items.items (all_said c.args.limits c.args.start c.args.signs.now) (rw i at c.loop-sign.invariant)
