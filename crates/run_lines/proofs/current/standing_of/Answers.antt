use Rattle.plain_host.specs.Hosted.{host}
use Rattle.run_lines.proofs.Activities.{read_is, read_none, stands_going, stands_answered, stands_failed, stands_nobody}
use Rattle.run_lines.proofs.current.standing_of.Goals as goal

pub returns-in-Some-Waiting-clause-source : goal.returns-in-Some-Waiting-clause-source
returns-in-Some-Waiting-clause-source c =
    let h = host c.args.hosting.now in
    let x = c.in-Some-Waiting in
    λ s r. stands_going h s r x.field-0-0 x.field-0-1 x.field-0-2 (read_is h c.current.result c.status.result x.field-0 _ c.current.ensures c.status.ensures x.is x.field-0-is)

pub returns-in-Some-Answered-clause-source : goal.returns-in-Some-Answered-clause-source
returns-in-Some-Answered-clause-source c =
    let h = host c.args.hosting.now in
    let x = c.in-Some-Answered in
    λ s r. stands_answered h s r x.field-0-0 (read_is h c.current.result c.status.result x.field-0 _ c.current.ensures c.status.ensures x.is x.field-0-is)

pub returns-in-Some-Failed-clause-source : goal.returns-in-Some-Failed-clause-source
returns-in-Some-Failed-clause-source c =
    let h = host c.args.hosting.now in
    let x = c.in-Some-Failed in
    λ s r. stands_failed h s r x.field-0-0 x.field-0-1 (read_is h c.current.result c.status.result x.field-0 _ c.current.ensures c.status.ensures x.is x.field-0-is)

pub returns-in-None-clause-source : goal.returns-in-None-clause-source
returns-in-None-clause-source c = λ s r. stands_nobody (host c.args.hosting.now) s r (read_none (host c.args.hosting.now) c.current.result c.status.result c.current.ensures c.status.ensures c.in-None.is)
