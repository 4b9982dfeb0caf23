use Rattle.std.proofs.Common.{sym, subst, ◌≤◌, ◌<◌, ℕ}
use Rattle.std.proofs.lemmas.Bool.{leb-true, leb-false}
use Rattle.plain_host.specs.Hosted.{host}
use Rattle.plain_core.proofs.Depths.{is_deep, is_shallow, over_answered, over_failed, over_none, status_is, status_none}
use Rattle.plain_core.proofs.finishing.is_as_deep.Goals as goal

pub returns-in-Some-Waiting-clause-deep : goal.returns-in-Some-Waiting-clause-deep
returns-in-Some-Waiting-clause-deep c =
    let h = host c.args.hosting.now in
    let x = c.in-Some-Waiting in
    λ e. is_deep h c.args.depth x.field-0-0 x.field-0-1 x.field-0-2 (status_is h c.current.result c.status.result x.field-0 _ c.current.ensures c.status.ensures x.is x.field-0-is) (subst (λ (k : ℕ). c.args.depth ≤ k) c.register.ensures (leb-true c.args.depth c.register.result e))

pub returns-in-Some-Waiting-clause-over : goal.returns-in-Some-Waiting-clause-over
returns-in-Some-Waiting-clause-over c =
    let h = host c.args.hosting.now in
    let x = c.in-Some-Waiting in
    λ e. is_shallow h c.args.depth x.field-0-0 x.field-0-1 x.field-0-2 (status_is h c.current.result c.status.result x.field-0 _ c.current.ensures c.status.ensures x.is x.field-0-is) (subst (λ (k : ℕ). k < c.args.depth) c.register.ensures (leb-false c.args.depth c.register.result e))

pub returns-in-Some-Answered-clause-over : goal.returns-in-Some-Answered-clause-over
returns-in-Some-Answered-clause-over c =
    let h = host c.args.hosting.now in
    let x = c.in-Some-Answered in
    λ e. over_answered h c.args.depth x.field-0-0 (status_is h c.current.result c.status.result x.field-0 _ c.current.ensures c.status.ensures x.is x.field-0-is)

pub returns-in-Some-Failed-clause-over : goal.returns-in-Some-Failed-clause-over
returns-in-Some-Failed-clause-over c =
    let h = host c.args.hosting.now in
    let x = c.in-Some-Failed in
    λ e. over_failed h c.args.depth x.field-0-0 x.field-0-1 (status_is h c.current.result c.status.result x.field-0 _ c.current.ensures c.status.ensures x.is x.field-0-is)

pub returns-in-None-clause-over : goal.returns-in-None-clause-over
returns-in-None-clause-over c = λ e. over_none (host c.args.hosting.now) c.args.depth (status_none (host c.args.hosting.now) c.current.result c.status.result c.current.ensures c.status.ensures c.in-None.is)
