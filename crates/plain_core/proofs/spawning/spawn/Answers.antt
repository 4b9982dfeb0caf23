use Rattle.std.proofs.Common.{arith}
use Rattle.plain_host.specs.Hosted.{host}
use Rattle.plain_core.specs.Leading.{Stays}
use Rattle.plain_core.proofs.Births.{too_many}
use Rattle.plain_core.proofs.spawning.spawn.Goals as goal

pub returns-then-activities-ge4-clause-born : goal.returns-then-activities-ge4-clause-born
returns-then-activities-ge4-clause-born c = too_many (host c.args.hosting.now) c.args.name.0 (let many = c.if-activities-ge4.true in let same = c.activities.ensures in omega (arith, many, same))

pub returns-then-activities-ge4-clause-led : goal.returns-then-activities-ge4-clause-led
returns-then-activities-ge4-clause-led c = Stays
