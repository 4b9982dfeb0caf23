use Rattle.std.proofs.Common.{◌≡◌, ◌-◌, Some, None, ◌∙◌, ap, sym}
use Rattle.plain_host.specs.Hosted.{host}
use Rattle.std.specs.Prelude.{slice_get}
use Rattle.plain_core.specs.Leading.{Stays}
use Rattle.plain_core.proofs.Births.{is_found, ready_there, ready_put, unit_fits}
use Rattle.plain_core.proofs.Leading.{put_leads, put_finds}
use Rattle.plain_core.proofs.spawning.unit_at.Goals as goal

pub unreachable-requires : goal.unreachable-requires
unreachable-requires c =
    let m = is_found (host c.args.hosting.now) c.requires.rests.0 c.requires.rests.1 c.args._name.0 c.args._lobby c.args._walk.now c.requires.lobby c.requires.room c.args._holder c.args.body c.requires.found in
    let both : None ≡ Some m.entry = sym c.in-None.is ∙ c.entry_of.ensures ∙ m.entry_is in
    cc

pub put_unit-requires-clause-given : goal.put_unit-requires-clause-given
put_unit-requires-clause-given c = (is_found (host c.args.hosting.now) c.requires.rests.0 c.requires.rests.1 c.args._name.0 c.args._lobby c.args._walk.now c.requires.lobby c.requires.room c.args._holder c.args.body c.requires.found).given.0

pub put_unit-requires-clause-within : goal.put_unit-requires-clause-within
put_unit-requires-clause-within c = (is_found (host c.args.hosting.now) c.requires.rests.0 c.requires.rests.1 c.args._name.0 c.args._lobby c.args._walk.now c.requires.lobby c.requires.room c.args._holder c.args.body c.requires.found).given.1

pub put_unit-requires-clause-room : goal.put_unit-requires-clause-room
put_unit-requires-clause-room c =
    let h = host c.args.hosting.now in
    let m = is_found h c.requires.rests.0 c.requires.rests.1 c.args._name.0 c.args._lobby c.args._walk.now c.requires.lobby c.requires.room c.args._holder c.args.body c.requires.found in
    let none : slice_get h.entries (c.args.body.0 - 1) ≡ Some 0 = sym c.entry_of.ensures ∙ c.in-Some-eq0.is ∙ ap Some c.in-Some-eq0.field-0-test in
    unit_fits h h c.requires.rests.0 c.args.body c.requires.rests.1 m none

pub returns-in_ok-at-in-Some-eq0-clause-ready : goal.returns-in_ok-at-in-Some-eq0-clause-ready
returns-in_ok-at-in-Some-eq0-clause-ready c =
    let h = host c.args.hosting.now in
    let m = is_found h c.requires.rests.0 c.requires.rests.1 c.args._name.0 c.args._lobby c.args._walk.now c.requires.lobby c.requires.room c.args._holder c.args.body c.requires.found in
    let none : slice_get h.entries (c.args.body.0 - 1) ≡ Some 0 = sym c.entry_of.ensures ∙ c.in-Some-eq0.is ∙ ap Some c.in-Some-eq0.field-0-test in
    let e = c.in_ok-at-in-Some-eq0.ensures in
    ready_put h (host c.put_unit.new.self) c.requires.rests.0 c.args.body c.requires.rests.1 m none c.in_ok-at-in-Some-eq0.at e.at e.unit e.code e.apart c.is_whole.ensures.machine

pub returns-in-Some-clause-ready : goal.returns-in-Some-clause-ready
returns-in-Some-clause-ready c =
    let h = host c.args.hosting.now in
    let m = is_found h c.requires.rests.0 c.requires.rests.1 c.args._name.0 c.args._lobby c.args._walk.now c.requires.lobby c.requires.room c.args._holder c.args.body c.requires.found in
    ready_there h c.args.body c.in-Some.at m (sym c.entry_of.ensures ∙ c.in-Some.is) c.in-Some.at-test.1

pub returns-in_ok-at-in-Some-eq0-clause-led : goal.returns-in_ok-at-in-Some-eq0-clause-led
returns-in_ok-at-in-Some-eq0-clause-led c =
    let h = host c.args.hosting.now in
    let m = is_found h c.requires.rests.0 c.requires.rests.1 c.args._name.0 c.args._lobby c.args._walk.now c.requires.lobby c.requires.room c.args._holder c.args.body c.requires.found in
    let none : slice_get h.entries (c.args.body.0 - 1) ≡ Some 0 = sym c.entry_of.ensures ∙ c.in-Some-eq0.is ∙ ap Some c.in-Some-eq0.field-0-test in
    let e = c.in_ok-at-in-Some-eq0.ensures in
    put_leads h (host c.put_unit.new.self) c.requires.rests.0 c.args.body c.requires.rests.1 m none e.unit e.code e.apart c.is_whole.ensures.machine

pub returns-in_ok-at-in-Some-eq0-clause-finds : goal.returns-in_ok-at-in-Some-eq0-clause-finds
returns-in_ok-at-in-Some-eq0-clause-finds c =
    let h = host c.args.hosting.now in
    let m = is_found h c.requires.rests.0 c.requires.rests.1 c.args._name.0 c.args._lobby c.args._walk.now c.requires.lobby c.requires.room c.args._holder c.args.body c.requires.found in
    let none : slice_get h.entries (c.args.body.0 - 1) ≡ Some 0 = sym c.entry_of.ensures ∙ c.in-Some-eq0.is ∙ ap Some c.in-Some-eq0.field-0-test in
    let e = c.in_ok-at-in-Some-eq0.ensures in
    put_finds h (host c.put_unit.new.self) c.requires.rests.0 c.args.body c.requires.rests.1 m none e.unit e.code e.apart c.is_whole.ensures.machine c.args._walk.now c.args._lobby c.args._name.0 c.args._holder c.requires.lobby c.requires.found

pub returns-in-Some-clause-led : goal.returns-in-Some-clause-led
returns-in-Some-clause-led c = Stays
