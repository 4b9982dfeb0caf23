use Rattle.std.proofs.Common.{◌-◌, ◌∙◌, ap, arith}
use Rattle.session_text.specs.LineTexts.{line_text}
use Rattle.plain_turns.specs.Asking.{count}
use Rattle.plain_session.specs.Commands.{goes_to}
use Rattle.plain_session.specs.Sessions.{Session, host_of}
use Rattle.plain_session.proofs.Obeying.{past_obeys, continue_obeyed, continue_broken, says_line, ok_then, err_then, stays_led, stays_few}
use Rattle.plain_session.proofs.sessions.Session.go_to.Goals as goal

pub returns-then-done-steps-clause-obeys : goal.returns-then-done-steps-clause-obeys
returns-then-done-steps-clause-obeys g c =
    says_line c.args.self.now c.args.self.now (goes_to c.args.steps) (g.K.Sink.taken c.args.out.now) _ (past_obeys c.args.self.now c.args.steps c.steps-done.result (c.steps-done.ensures ∙ ap (λ (z : Session). count (host_of z)) c.self.view_is) (let past = c.if-done-steps.true in omega (arith, past)) c.requires.stands)

pub returns-then-done-steps-clause-led : goal.returns-then-done-steps-clause-led
returns-then-done-steps-clause-led g c = stays_led c.args.self.now

pub returns-then-done-steps-clause-rose : goal.returns-then-done-steps-clause-rose
returns-then-done-steps-clause-rose g c = stays_few c.args.self.now

pub returns-clause-obeys : goal.returns-clause-obeys
returns-clause-obeys g c =
    let within = c.if-done-steps.false in
    let few = c.requires.few in
    ok_then c.go.result c.go.ensures.obeys (λ t o. continue_obeyed c.args.self.now c.args.steps _ c.steps-done.result (c.steps-done.ensures ∙ ap (λ (z : Session). count (host_of z)) c.self.view_is) (omega (arith, within)) (omega (arith, within, few)) c.go.new.self (g.K.Sink.taken c.args.out.now) (g.K.Sink.taken c.go.new.out) (line_text t) o)

pub returns-clause-broken : goal.returns-clause-broken
returns-clause-broken g c =
    let within = c.if-done-steps.false in
    let few = c.requires.few in
    err_then c.go.result c.go.ensures.broken (continue_broken c.args.self.now c.args.steps _ c.steps-done.result (c.steps-done.ensures ∙ ap (λ (z : Session). count (host_of z)) c.self.view_is) (omega (arith, within)) (omega (arith, within, few)) (g.K.Sink.taken c.args.out.now) (g.K.Sink.taken c.go.new.out))
