use Rattle.std.proofs.Common.{ap, arith}
use Rattle.plain_host.specs.Hosted.{host}
use Rattle.plain_runs.specs.Host.{Host}
use Rattle.plain_core.proofs.Serving.{asked, method_there, unit_fits, back_is, is_put, unit_put}
use Rattle.plain_core.proofs.turning.put.Goals as goal

pub back_of-back-requires-clause-asked : goal.back_of-back-requires-clause-asked
back_of-back-requires-clause-asked c = asked _ _ _ _ c.requires.at c.requires.room

pub put_unit-requires-clause-given : goal.put_unit-requires-clause-given
put_unit-requires-clause-given c = (method_there _ _ _ _ c.requires.at c.requires.room _ _ c.requires.found).body.0

pub put_unit-requires-clause-within : goal.put_unit-requires-clause-within
put_unit-requires-clause-within c = (method_there _ _ _ _ c.requires.at c.requires.room _ _ c.requires.found).body.1

pub put_unit-requires-clause-translates : goal.put_unit-requires-clause-translates
put_unit-requires-clause-translates c = (method_there _ _ _ _ c.requires.at c.requires.room _ _ c.requires.found).translates

pub put_unit-requires-clause-room : goal.put_unit-requires-clause-room
put_unit-requires-clause-room c = unit_fits _ (host c.args.hosting.now) (host c.args.hosting.now) c.args.target c.args.walk.now c.args._holder c.args.body c.requires.at c.requires.room c.requires.found c.requires.none

pub go_back-requires-clause-within : goal.go_back-requires-clause-within
go_back-requires-clause-within c =
    let a = asked _ (host c.args.hosting.now) c.args.target c.args.walk.now c.requires.at c.requires.room in
    let b = back_is _ (host c.args.hosting.now) c.args.target c.args.walk.now c.back_of-back.result c.requires.at c.requires.room c.back_of-back.ensures in
    let same = ap (λ (y : Host). y.machine.pc) c.in_ok-put_unit.ensures.unit in
    omega (arith, a.back, b, same)

pub returns : goal.returns
returns c =
    let h = host c.args.hosting.now in
    let mid = host c.put_unit.new.self in
    let put = is_put _ h mid c.args.target c.args.walk.now c.args._holder c.args.body c.requires.at c.requires.room c.requires.found c.requires.none c.in_ok-put_unit.ensures.unit c.in_ok-put_unit.ensures.code c.in_ok-put_unit.ensures.apart c.is_whole.ensures.machine in
    unit_put _ h mid c.args.target c.args.walk.now c.args._holder c.args.body c.requires.at c.requires.room c.requires.found c.requires.none (host c.go_back.new.self) c.left-goal.result c.cost_left-cost.result c.back_of-back.result c.go_back.ensures c.left-goal.ensures c.cost_left-cost.ensures c.back_of-back.ensures c.in_ok-put_unit.ensures.unit put
