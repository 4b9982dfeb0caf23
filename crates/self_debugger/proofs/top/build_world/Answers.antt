use Rattle.std.specs.Prelude.{List, ℕ, Ok, length}
use Rattle.std.proofs.Common.{subst, sym}
use Rattle.std.proofs.lemmas.Option.{IfSome_then}
use Rattle.self_debugger.specs.Answer.{Answer}
use Rattle.self_debugger.specs.Headline.{Outcome}
use Rattle.self_debugger.proofs.Cases.{of_refused, of_world}
use Rattle.self_debugger.proofs.top.build_world.Goals as goal

pub serve_script-requires-clause-accepted : goal.serve_script-requires-clause-accepted
serve_script-requires-clause-accepted g c = (c.args.bytes.now, rw c.in-Ok-Ok.field-0-is at c.in-Ok-Ok.ensures.read)

pub returns-in-Ok-Ok-clause-outcome : goal.returns-in-Ok-Ok-clause-outcome
returns-in-Ok-Ok-clause-outcome g c = λ a s.
    let P : Answer → Type 0 = λ x. Outcome c.serve_script.result.status x (g.K.Sink.taken c.args.out.now) (g.K.Sink.taken c.serve_script.new.out) in
    of_world (length c.args.advisors.items) P c.args.bytes.now c.in-Ok-Ok.image.world (g.S.Source.left c.args.script.now) (rw c.in-Ok-Ok.field-0-is at c.in-Ok-Ok.ensures.read) (λ t told r. c.serve_script.ensures.outcome t a told r) s

pub returns-in-Ok-Err-clause-outcome : goal.returns-in-Ok-Err-clause-outcome
returns-in-Ok-Err-clause-outcome g c = λ a s.
    let P : Answer → Type 0 = λ x. Outcome c.tell.result.status x (g.K.Sink.taken c.args.out.now) (g.K.Sink.taken c.tell.new.out) in
    of_refused (length c.args.advisors.items) P c.args.bytes.now c.in-Ok-Err.line.items (g.S.Source.left c.args.script.now) (rw c.in-Ok-Err.field-0-is at c.in-Ok-Err.ensures.refused)
    (subst (λ (x : List ℕ). P (x, 2)) c.deref.ensures.value c.tell.ensures.outcome) s

pub returns-in-Ok-Ok-clause-read : goal.returns-in-Ok-Ok-clause-read
returns-in-Ok-Ok-clause-read g c = λ four. (c.serve_script.ensures.read four, (c.in-Ok-Ok.image.world, rw c.in-Ok-Ok.field-0-is at c.in-Ok-Ok.ensures.read))

pub returns-in-Ok-Ok-clause-ran : goal.returns-in-Ok-Ok-clause-ran
returns-in-Ok-Ok-clause-ran g c =
    IfSome_then c.serve_script.result.session c.serve_script.ensures.ran (λ e r.
    (r.0, record { world = c.in-Ok-Ok.image.world; accepted = rw c.in-Ok-Ok.field-0-is at c.in-Ok-Ok.ensures.read; run = r.1 }))

pub returns-in-Ok-Ok-clause-shown : goal.returns-in-Ok-Ok-clause-shown
returns-in-Ok-Ok-clause-shown g c = λ t told.
    IfSome_then c.serve_script.result.session (c.serve_script.ensures.shown t told) (λ e r.
    record { world = c.in-Ok-Ok.image.world; accepted = rw c.in-Ok-Ok.field-0-is at c.in-Ok-Ok.ensures.read; run = r })
