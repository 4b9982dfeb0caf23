use Rattle.plain_session.proofs.Obeying.{run_is, continue_is, step_is, interrupt_is, finish_is, stack_is, switch_is, spawned_says, spawn_wants, says_line, on_err, obeyed_as, broken_as}
use Rattle.std.proofs.Common.{sym, subst}
use Rattle.std.specs.Prelude.{IfOk, OnErr}
use Rattle.source_model.specs.State.{Reached}
use Rattle.session_text.specs.LineTexts.{line_text}
use Rattle.plain_session.specs.Sessions.{Obeys, HasObeyed, HasBroken}
use Rattle.plain_session.specs.Stacks.{rest_text}
use Rattle.plain_session.proofs.sessions.Session.obey.Goals as goal

pub returns-in_ok-spawn-in-Spawn-clause-obeys : goal.returns-in_ok-spawn-in-Spawn-clause-obeys
returns-in_ok-spawn-in-Spawn-clause-obeys g c = spawned_says c.args.self.now c.spawn.new.self c.args.command.now c.in-Spawn.name _ (g.K.Sink.taken c.args.out.now) _ c.as_slice.ensures c.in-Spawn.is c.in_ok-spawn-in-Spawn.ensures.obeys

pub returns-in_err-spawn-in-Spawn-clause-broken : goal.returns-in_err-spawn-in-Spawn-clause-broken
returns-in_err-spawn-in-Spawn-clause-broken g c = on_err _ _ (spawn_wants c.args.self.now c.args.command.now c.in-Spawn.name (g.K.Sink.taken c.args.out.now) c.in-Spawn.is)

pub returns-in-Switch-clause-obeys : goal.returns-in-Switch-clause-obeys
returns-in-Switch-clause-obeys g c =
    let P : (Reached → Reached) → Type 0 = λ d. Obeys c.args.self.now c.switch.new.self d (line_text c.switch.result) in
    says_line c.args.self.now c.switch.new.self _ (g.K.Sink.taken c.args.out.now) _ (subst P (sym (switch_is c.args.command.now c.in-Switch.k c.in-Switch.is)) c.switch.ensures.obeys)

pub returns-in_ok-run-in-Run-clause-obeys : goal.returns-in_ok-run-in-Run-clause-obeys
returns-in_ok-run-in-Run-clause-obeys g c = obeyed_as _ _ _ _ _ _ _ (run_is c.args.command.now c.in-Run.steps c.in-Run.is) c.in_ok-run-in-Run.ensures.obeys

pub returns-in_err-run-in-Run-clause-broken : goal.returns-in_err-run-in-Run-clause-broken
returns-in_err-run-in-Run-clause-broken g c = on_err _ _ (broken_as _ _ _ _ _ (run_is c.args.command.now c.in-Run.steps c.in-Run.is) c.in_err-run-in-Run.ensures.broken)

pub returns-in_ok-continue_to-in-Continue-clause-obeys : goal.returns-in_ok-continue_to-in-Continue-clause-obeys
returns-in_ok-continue_to-in-Continue-clause-obeys g c = obeyed_as _ _ _ _ _ _ _ (continue_is c.args.command.now c.in-Continue.steps c.in-Continue.is) c.in_ok-continue_to-in-Continue.ensures.obeys

pub returns-in_err-continue_to-in-Continue-clause-broken : goal.returns-in_err-continue_to-in-Continue-clause-broken
returns-in_err-continue_to-in-Continue-clause-broken g c = on_err _ _ (broken_as _ _ _ _ _ (continue_is c.args.command.now c.in-Continue.steps c.in-Continue.is) c.in_err-continue_to-in-Continue.ensures.broken)

pub returns-in_ok-run-in-Step-clause-obeys : goal.returns-in_ok-run-in-Step-clause-obeys
returns-in_ok-run-in-Step-clause-obeys g c = obeyed_as _ _ _ _ _ _ _ (step_is c.args.command.now c.in-Step.is) c.in_ok-run-in-Step.ensures.obeys

pub returns-in_err-run-in-Step-clause-broken : goal.returns-in_err-run-in-Step-clause-broken
returns-in_err-run-in-Step-clause-broken g c = on_err _ _ (broken_as _ _ _ _ _ (step_is c.args.command.now c.in-Step.is) c.in_err-run-in-Step.ensures.broken)

pub returns-in_ok-run-in-Interrupt-clause-obeys : goal.returns-in_ok-run-in-Interrupt-clause-obeys
returns-in_ok-run-in-Interrupt-clause-obeys g c = obeyed_as _ _ _ _ _ _ _ (interrupt_is c.args.command.now c.in-Interrupt.steps c.in-Interrupt.is) c.in_ok-run-in-Interrupt.ensures.obeys

pub returns-in_err-run-in-Interrupt-clause-broken : goal.returns-in_err-run-in-Interrupt-clause-broken
returns-in_err-run-in-Interrupt-clause-broken g c = on_err _ _ (broken_as _ _ _ _ _ (interrupt_is c.args.command.now c.in-Interrupt.steps c.in-Interrupt.is) c.in_err-run-in-Interrupt.ensures.broken)

pub returns-in_ok-finish-in-Finish-clause-obeys : goal.returns-in_ok-finish-in-Finish-clause-obeys
returns-in_ok-finish-in-Finish-clause-obeys g c = obeyed_as _ _ _ _ _ _ _ (finish_is c.args.command.now c.in-Finish.steps c.in-Finish.is) c.in_ok-finish-in-Finish.ensures.obeys

pub returns-in_err-finish-in-Finish-clause-broken : goal.returns-in_err-finish-in-Finish-clause-broken
returns-in_err-finish-in-Finish-clause-broken g c = on_err _ _ (broken_as _ _ _ _ _ (finish_is c.args.command.now c.in-Finish.steps c.in-Finish.is) c.in_err-finish-in-Finish.ensures.broken)

pub returns-in-Stack-clause-obeys : goal.returns-in-Stack-clause-obeys
returns-in-Stack-clause-obeys g c =
    let P : (Reached → Reached) → Type 0 = λ d. IfOk c.stack.result (λ t. HasObeyed c.args.self.now c.stack.new.self d (g.K.Sink.taken c.args.out.now) (g.K.Sink.taken c.stack.new.out) (rest_text t)) in
    subst P (sym (stack_is c.args.command.now c.in-Stack.is)) c.stack.ensures.obeys

pub returns-in-Stack-clause-broken : goal.returns-in-Stack-clause-broken
returns-in-Stack-clause-broken g c =
    let P : (Reached → Reached) → Type 0 = λ d. OnErr c.stack.result (HasBroken c.args.self.now d (g.K.Sink.taken c.args.out.now) (g.K.Sink.taken c.stack.new.out)) in
    subst P (sym (stack_is c.args.command.now c.in-Stack.is)) c.stack.ensures.broken
