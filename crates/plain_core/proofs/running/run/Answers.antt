use Rattle.std.proofs.Common.{ℕ, ◌-◌, ◌∙◌, ap}
use Rattle.plain_host.specs.Hosted.{host}
use Rattle.plain_runs.specs.Host.{Host}
use Rattle.plain_core.proofs.Fronts.{any_err}
use Rattle.plain_core.proofs.Keeping.{known_keeps, reaches_keep}
use Rattle.plain_core.proofs.Rounds.{can_go, has_run, has_broken}
use Rattle.plain_core.proofs.Spending.{has_spent}
use Rattle.plain_core.proofs.running.run.Goals as goal

pub run_to-requires-clause-at : goal.run_to-requires-clause-at
run_to-requires-clause-at g c = can_go c.args.language.now (host c.args.hosting.now) (host c.go_back.new.self) c.args.steps _ c.steps.result c.requires.rests c.go_back.ensures (c.saturating_sub-cost.ensures ∙ ap (λ (k : ℕ). 4194304 - k) c.cost.ensures) c.steps.ensures c.requires.few

pub run_to-requires-clause-core : goal.run_to-requires-clause-core
run_to-requires-clause-core g c = known_keeps (host c.args.hosting.now) (host c.go_back.new.self) c.args.language.now (ap (λ (y : Host). y.references) c.go_back.ensures) c.requires.known

pub returns-clause-ran : goal.returns-clause-ran
returns-clause-ran g c =
    has_run c.args.language.now (host c.args.hosting.now) (host c.go_back.new.self) (host c.run_to.new.hosting) c.args.steps _ c.steps.result c.in_ok-taken.taken (g.K.Sink.taken c.args.out.now) (g.K.Sink.taken c.run_to.new.out) c.requires.rests c.go_back.ensures (c.saturating_sub-cost.ensures ∙ ap (λ (k : ℕ). 4194304 - k) c.cost.ensures) c.steps.ensures c.requires.few c.in_ok-taken.ensures.runs c.in_ok-taken.ensures.reached

pub returns-clause-same : goal.returns-clause-same
returns-clause-same g c = reaches_keep (host c.go_back.new.self) (host c.run_to.new.hosting) c.in_ok-taken.taken.instructions c.in_ok-taken.taken.services c.in_ok-taken.ensures.reached ∙ ap (λ (y : Host). y.references) c.go_back.ensures

pub returns-clause-spent : goal.returns-clause-spent
returns-clause-spent g c =
    has_spent c.args.language.now (host c.args.hosting.now) (host c.go_back.new.self) (host c.run_to.new.hosting) c.args.steps _ c.steps.result c.in_ok-taken.taken c.requires.rests c.go_back.ensures (c.saturating_sub-cost.ensures ∙ ap (λ (k : ℕ). 4194304 - k) c.cost.ensures) c.steps.ensures c.requires.few c.in_ok-taken.ensures.spent c.in_ok-taken.ensures.each

pub returns-in_err-taken-clause-broken : goal.returns-in_err-taken-clause-broken
returns-in_err-taken-clause-broken g c =
    any_err _ c.from_residual.result (has_broken c.args.language.now (host c.args.hosting.now) (host c.go_back.new.self) c.args.steps _ c.steps.result (g.K.Sink.taken c.args.out.now) (g.K.Sink.taken c.run_to.new.out) c.requires.rests c.go_back.ensures (c.saturating_sub-cost.ensures ∙ ap (λ (k : ℕ). 4194304 - k) c.cost.ensures) c.steps.ensures c.requires.few c.in_err-taken.ensures.broken)
