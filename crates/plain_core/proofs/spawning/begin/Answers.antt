use Rattle.plain_host.specs.Hosted.{host}
use Rattle.plain_core.proofs.Births.{can_begin, is_born, objects, references}
use Rattle.plain_core.proofs.Leading.{begin_leads}
use Rattle.plain_core.proofs.spawning.begin.Goals as goal

pub start-requires-clause-given : goal.start-requires-clause-given
start-requires-clause-given c = (can_begin (host c.args.hosting.now) (host c.unit_at.new.hosting) c.args.name.0 c.args.lobby c.args.walk.now c.args.holder c.in_ok-at.at c.args.body c.requires.lobby c.requires.room c.requires.few c.requires.found c.requires.cheap c.in_ok-at.ensures.ready c.requires.rests).given.0

pub start-requires-clause-within : goal.start-requires-clause-within
start-requires-clause-within c = (can_begin (host c.args.hosting.now) (host c.unit_at.new.hosting) c.args.name.0 c.args.lobby c.args.walk.now c.args.holder c.in_ok-at.at c.args.body c.requires.lobby c.requires.room c.requires.few c.requires.found c.requires.cheap c.in_ok-at.ensures.ready c.requires.rests).given.1

pub start-requires-clause-translates : goal.start-requires-clause-translates
start-requires-clause-translates c = (can_begin (host c.args.hosting.now) (host c.unit_at.new.hosting) c.args.name.0 c.args.lobby c.args.walk.now c.args.holder c.in_ok-at.at c.args.body c.requires.lobby c.requires.room c.requires.few c.requires.found c.requires.cheap c.in_ok-at.ensures.ready c.requires.rests).translates

pub start-requires-clause-few : goal.start-requires-clause-few
start-requires-clause-few c = (can_begin (host c.args.hosting.now) (host c.unit_at.new.hosting) c.args.name.0 c.args.lobby c.args.walk.now c.args.holder c.in_ok-at.at c.args.body c.requires.lobby c.requires.room c.requires.few c.requires.found c.requires.cheap c.in_ok-at.ensures.ready c.requires.rests).few

pub start-requires-clause-flushes : goal.start-requires-clause-flushes
start-requires-clause-flushes c = (can_begin (host c.args.hosting.now) (host c.unit_at.new.hosting) c.args.name.0 c.args.lobby c.args.walk.now c.args.holder c.in_ok-at.at c.args.body c.requires.lobby c.requires.room c.requires.few c.requires.found c.requires.cheap c.in_ok-at.ensures.ready c.requires.rests).flushes

pub start-requires-clause-room : goal.start-requires-clause-room
start-requires-clause-room c = (can_begin (host c.args.hosting.now) (host c.unit_at.new.hosting) c.args.name.0 c.args.lobby c.args.walk.now c.args.holder c.in_ok-at.at c.args.body c.requires.lobby c.requires.room c.requires.few c.requires.found c.requires.cheap c.in_ok-at.ensures.ready c.requires.rests).room

pub returns-clause-born : goal.returns-clause-born
returns-clause-born c = is_born (host c.args.hosting.now) (host c.unit_at.new.hosting) c.args.name.0 c.args.lobby c.args.walk.now c.args.holder c.in_ok-at.at c.args.body c.requires.lobby c.requires.room c.requires.few c.requires.found c.requires.cheap c.in_ok-at.ensures.ready (host c.start.new.hosting) c.start.ensures

pub returns-clause-objects : goal.returns-clause-objects
returns-clause-objects c = objects (host c.args.hosting.now) (host c.unit_at.new.hosting) c.args.name.0 c.args.lobby c.args.walk.now c.args.holder c.in_ok-at.at c.args.body c.requires.lobby c.requires.room c.requires.few c.requires.found c.requires.cheap c.in_ok-at.ensures.ready (host c.start.new.hosting) c.start.ensures

pub returns-clause-references : goal.returns-clause-references
returns-clause-references c = references (host c.args.hosting.now) (host c.unit_at.new.hosting) c.args.name.0 c.args.lobby c.args.walk.now c.args.holder c.in_ok-at.at c.args.body c.requires.lobby c.requires.room c.requires.few c.requires.found c.requires.cheap c.in_ok-at.ensures.ready (host c.start.new.hosting) c.start.ensures

pub returns-clause-led : goal.returns-clause-led
returns-clause-led c =
    begin_leads (host c.args.hosting.now) (host c.unit_at.new.hosting) (host c.start.new.hosting) c.args.lobby c.args.walk.now c.args.name.0 c.args.holder c.in_ok-at.at c.args.body c.requires.lobby c.requires.room c.in_ok-at.ensures.ready c.in_ok-at.ensures.led
    c.in_ok-at.ensures.finds c.start.ensures
