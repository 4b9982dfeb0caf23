use Rattle.std.specs.Prelude.{length}
use Rattle.plain_session.specs.Sessions.{Shows}
use Rattle.self_debugger.specs.WorldFiles.{begins}
use Rattle.self_debugger.proofs.Advising.{shows_begun}
use Rattle.self_debugger.proofs.Opens.{can_open, fixed, formed, short, sums}
use Rattle.self_debugger.proofs.worlds.session_over.Goals as goal

pub open-requires-clause-opens : goal.open-requires-clause-opens
open-requires-clause-opens c = can_open c.args.image.world c.requires.accepted

pub open-requires-clause-formed : goal.open-requires-clause-formed
open-requires-clause-formed c = formed c.args.image.world c.requires.accepted

pub open-requires-clause-sums : goal.open-requires-clause-sums
open-requires-clause-sums c = sums c.args.image.world c.requires.accepted

pub open-requires-clause-fixed : goal.open-requires-clause-fixed
open-requires-clause-fixed c = fixed c.args.image.world c.requires.accepted

pub open-requires-clause-short : goal.open-requires-clause-short
open-requires-clause-short c = short c.args.image.world c.requires.accepted
