use Rattle.std.proofs.Common.{arith, length}
use Rattle.self_debugger.specs.Answer.{Answer}
use Rattle.self_debugger.specs.Headline.{Outcome}
use Rattle.self_debugger.proofs.Cases.{of_bad_script}
use Rattle.self_debugger.proofs.Taking.{no_answer}
use Rattle.self_debugger.proofs.top.serve_text.Goals as goal

pub returns-in-Err-BadCommand-clause-outcome : goal.returns-in-Err-BadCommand-clause-outcome
returns-in-Err-BadCommand-clause-outcome g c = λ a s.
    let P : Answer → Type 0 = λ x. Outcome c.tell_bad_line.result.status x (g.K.Sink.taken c.args.out.now) (g.K.Sink.taken c.tell_bad_line.new.out) in
    of_bad_script (length c.args.advisors.items) P c.args.image.world c.args.text.now c.in-Err-BadCommand.number c.requires.short (rw c.in-Err-BadCommand.field-0-is at c.in-Err-BadCommand.ensures.refused) (rw c.in-Err-BadCommand.field-0-is at c.tell_bad_line.ensures.outcome) s

pub returns-clause-outcome : goal.returns-clause-outcome
returns-clause-outcome g c = λ a s. let six = c.without_session.ensures.status in no_answer c.without_session.result.status a (g.K.Sink.taken c.args.out.now) (omega (arith, six))
