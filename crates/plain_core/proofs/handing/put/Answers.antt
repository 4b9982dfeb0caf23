use Rattle.std.proofs.Common.{arith}
use Rattle.plain_host.specs.Hosted.{host}
use Rattle.plain_core.proofs.Handlers.{handed_over, body_given, within_there, translates_there, room_there, back_there, unit_put}
use Rattle.plain_core.proofs.handing.put.Goals as goal

pub hand_over-requires : goal.hand_over-requires
hand_over-requires c = (handed_over _ _ _ _ _ c.requires.at c.requires.room c.requires.failed).few

pub put_unit-requires-clause-given : goal.put_unit-requires-clause-given
put_unit-requires-clause-given c = body_given _ _ _ _ _ c.requires.at c.requires.room c.requires.failed _ _ c.requires.found

pub put_unit-requires-clause-within : goal.put_unit-requires-clause-within
put_unit-requires-clause-within c = within_there _ _ _ _ _ c.requires.at c.requires.room c.requires.failed _ _ c.requires.found (host c.hand_over.new.hosting) c.hand_over.ensures

pub put_unit-requires-clause-translates : goal.put_unit-requires-clause-translates
put_unit-requires-clause-translates c = translates_there _ _ _ _ _ c.requires.at c.requires.room c.requires.failed _ _ c.requires.found (host c.hand_over.new.hosting) c.hand_over.ensures

pub put_unit-requires-clause-room : goal.put_unit-requires-clause-room
put_unit-requires-clause-room c = room_there _ _ _ _ _ c.requires.at c.requires.room c.requires.failed _ _ c.requires.found (host c.hand_over.new.hosting) c.hand_over.ensures c.requires.none

pub go_back-requires-clause-within : goal.go_back-requires-clause-within
go_back-requires-clause-within c =
    let u = c.in_ok-put_unit.ensures in
    let b = back_there c.args.language.now (host c.args.hosting.now) c.args.target c.args._walk.now c.args.failure c.requires.at c.requires.room c.requires.failed c.args._holder c.args.body c.requires.found (host c.hand_over.new.hosting) c.hand_over.ensures (host c.put_unit.new.self) c.requires.none u.unit u.code u.apart c.is_whole.ensures.machine in
    omega (arith, b, c.back_of-back.ensures)

pub returns : goal.returns
returns c =
    let u = c.in_ok-put_unit.ensures in
    unit_put c.args.language.now (host c.args.hosting.now) c.args.target c.args._walk.now c.args.failure c.requires.at c.requires.room c.requires.failed c.args._holder c.args.body c.requires.found (host c.hand_over.new.hosting) c.hand_over.ensures (host c.put_unit.new.self) c.requires.none u.unit u.code u.apart c.is_whole.ensures.machine (host c.go_back.new.self) c.left-goal.result c.cost_left-cost.result c.back_of-back.result c.go_back.ensures c.left-goal.ensures c.cost_left-cost.ensures c.back_of-back.ensures
