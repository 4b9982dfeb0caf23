use Rattle.std.proofs.Common.{sym, subst}
use Rattle.plain_runs.specs.Host.{Host}
use Rattle.plain_turns.specs.Resting.{Rests}
use Rattle.plain_host.specs.Hosted.{host}
use Rattle.world_blocks.specs.Sessions.{session_names}
use Rattle.world_state.specs.Begun.{begun}
use Rattle.plain_opens.proofs.Resting.{opened_rests}
use Rattle.plain_opens.proofs.opening.open.Goals as goal

pub returns-clause-rests : goal.returns-clause-rests
returns-clause-rests c = λ advisors formed sums.
    let i = c.args.image in
    let memory = (host c.in_ok-hosting.hosting).machine.memory in
    let within = c.is_whole-2.ensures.machine.memory_within in
    let rests = opened_rests i memory advisors c.stands.ensures c.is_whole.ensures.modest c.is_whole.ensures.whole c.in_ok-hosting.ensures.loaded within c.requires formed sums in
    subst (λ (x : Host). Rests x (begun i.world (session_names i.world) advisors)) (sym c.in_ok-hosting.ensures.host) rests
