use Rattle.std.specs.Prelude.{List, ℕ, Ok}
use Rattle.std.proofs.Common.{subst, sym}
use Rattle.world_build.specs.Worlds.{World}
use Rattle.self_debugger.specs.WorldFiles.{WorldRead}
use Rattle.self_debugger.specs.Answer.{Answer}
use Rattle.self_debugger.specs.Headline.{Outcome}
use Rattle.self_debugger.proofs.Cases.{of_refused_check, of_checked}
use Rattle.self_debugger.proofs.top.check_world.Goals as goal

pub returns-in-Ok-Ok-clause-outcome : goal.returns-in-Ok-Ok-clause-outcome
returns-in-Ok-Ok-clause-outcome g c = λ a s.
    let P : Answer → Type 0 = λ x. Outcome c.tell_world.result.status x (g.K.Sink.taken c.args.out.now) (g.K.Sink.taken c.tell_world.new.out) in
    of_checked 0 P c.args.bytes.now c.world.result.now (subst (λ (w : World). WorldRead c.args.bytes.now (Ok w)) (sym c.world.ensures) (rw c.in-Ok-Ok.field-0-is at c.in-Ok-Ok.ensures.read)) c.tell_world.ensures.outcome s

pub returns-in-Ok-Err-clause-outcome : goal.returns-in-Ok-Err-clause-outcome
returns-in-Ok-Err-clause-outcome g c = λ a s.
    let P : Answer → Type 0 = λ x. Outcome c.tell.result.status x (g.K.Sink.taken c.args.out.now) (g.K.Sink.taken c.tell.new.out) in
    of_refused_check 0 P c.args.bytes.now c.in-Ok-Err.line.items (rw c.in-Ok-Err.field-0-is at c.in-Ok-Err.ensures.refused)
    (subst (λ (x : List ℕ). P (x, 2)) c.deref.ensures.value c.tell.ensures.outcome) s
