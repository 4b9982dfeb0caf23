use Rattle.std.proofs.Common.{ℕ, sym, subst}
use Rattle.plain_host.specs.Hosted.{host}
use Rattle.plain_core.specs.Turning.{Served}
use Rattle.plain_core.proofs.Fronts.{breaks_here}
use Rattle.plain_core.proofs.turning.serve.Goals as goal

pub returns-in-Ok-clause-served : goal.returns-in-Ok-clause-served
returns-in-Ok-clause-served g c =
    let taken = g.K.Sink.taken c.args.out.now in
    let P : ℕ → Type 0 = λ t. Served c.args.language.now t (host c.args.hosting.now) (host c.send.new.hosting) c.args.target taken taken c.in-Ok.turn in
    subst P (sym c.in-1.is) (c.in-Ok.ensures.served.served taken)

pub returns-in-Err-clause-broken : goal.returns-in-Err-clause-broken
returns-in-Err-clause-broken g c = breaks_here c.args.language.now c.args.trap (host c.args.hosting.now) c.args.target (g.K.Sink.taken c.args.out.now)

pub returns-in-2-clause-served : goal.returns-in-2-clause-served
returns-in-2-clause-served g c =
    let taken = g.K.Sink.taken c.args.out.now in
    let P : ℕ → Type 0 = λ t. Served c.args.language.now t (host c.args.hosting.now) (host c.wait.new.hosting) c.args.target taken taken c.wait.result in
    subst P (sym c.in-2.is) (c.wait.ensures.served taken)

pub returns-in-4-clause-served : goal.returns-in-4-clause-served
returns-in-4-clause-served g c =
    let taken = g.K.Sink.taken c.args.out.now in
    let P : ℕ → Type 0 = λ t. Served c.args.language.now t (host c.args.hosting.now) (host c.leave.new.hosting) c.args.target taken taken c.leave.result in
    subst P (sym c.in-4.is) (c.leave.ensures.served taken)

pub returns-in-8-clause-served : goal.returns-in-8-clause-served
returns-in-8-clause-served g c =
    let taken = g.K.Sink.taken c.args.out.now in
    let P : ℕ → Type 0 = λ t. Served c.args.language.now t (host c.args.hosting.now) (host c.fill.new.hosting) c.args.target taken taken c.fill.result in
    subst P (sym c.in-8.is) (c.fill.ensures.served taken)

pub returns-in-9-clause-served : goal.returns-in-9-clause-served
returns-in-9-clause-served g c =
    let taken = g.K.Sink.taken c.args.out.now in
    let P : ℕ → Type 0 = λ t. Served c.args.language.now t (host c.args.hosting.now) (host c.end.new.hosting) c.args.target taken taken c.end.result in
    subst P (sym c.in-9.is) (c.end.ensures.served taken)
