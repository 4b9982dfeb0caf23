use Rattle.std.proofs.Common.{◌∙◌, sym}
use Rattle.plain_host.specs.Hosted.{host}
use Rattle.plain_core.specs.Leading.{Stays}
use Rattle.plain_core.proofs.Births.{is_found, sums_within, unpaid}
use Rattle.plain_core.proofs.spawning.enter.Goals as goal

pub is_costly-requires-clause-given : goal.is_costly-requires-clause-given
is_costly-requires-clause-given c = (is_found (host c.args.hosting.now) c.requires.rests.0 c.requires.rests.1 c.args.name.0 c.args.lobby c.args.walk.now c.requires.lobby c.requires.room c.args.holder c.args.body c.requires.found).given.0

pub is_costly-requires-clause-within : goal.is_costly-requires-clause-within
is_costly-requires-clause-within c = (is_found (host c.args.hosting.now) c.requires.rests.0 c.requires.rests.1 c.args.name.0 c.args.lobby c.args.walk.now c.requires.lobby c.requires.room c.args.holder c.args.body c.requires.found).given.1

pub is_costly-requires-clause-translates : goal.is_costly-requires-clause-translates
is_costly-requires-clause-translates c = (is_found (host c.args.hosting.now) c.requires.rests.0 c.requires.rests.1 c.args.name.0 c.args.lobby c.args.walk.now c.requires.lobby c.requires.room c.args.holder c.args.body c.requires.found).translates

pub is_costly-requires-clause-sums : goal.is_costly-requires-clause-sums
is_costly-requires-clause-sums c = sums_within (host c.args.hosting.now) c.requires.rests.0 c.requires.rests.1

pub returns-then-is_costly-clause-born : goal.returns-then-is_costly-clause-born
returns-then-is_costly-clause-born c =
    unpaid (host c.args.hosting.now) c.args.name.0 c.args.lobby c.args.walk.now c.requires.lobby c.requires.room c.requires.few c.args.holder c.args.body c.requires.found (sym c.is_costly.ensures ∙ c.if-is_costly.true)

pub returns-then-is_costly-clause-led : goal.returns-then-is_costly-clause-led
returns-then-is_costly-clause-led c = Stays
