use Rattle.std.proofs.Common.{arith, length}
use Rattle.self_debugger.specs.Answer.{Answer}
use Rattle.self_debugger.specs.Headline.{Outcome}
use Rattle.self_debugger.proofs.Cases.{of_long_script}
use Rattle.self_debugger.proofs.Taking.{no_answer}
use Rattle.self_debugger.proofs.top.serve_script.Goals as goal

pub returns-in-Err-TooLong-clause-outcome : goal.returns-in-Err-TooLong-clause-outcome
returns-in-Err-TooLong-clause-outcome g c = λ t a e s.
    let P : Answer → Type 0 = λ x. Outcome c.tell.result.status x (g.K.Sink.taken c.args.out.now) (g.K.Sink.taken c.tell.new.out) in
    of_long_script (length c.args.advisors.items) P c.args.image.world t (c.in-Err-TooLong.ensures.too_long (cc (c.in-Err-TooLong.field-0-is)) t e) c.tell.ensures.outcome s

pub returns-in-Err-Fault-clause-outcome : goal.returns-in-Err-Fault-clause-outcome
returns-in-Err-Fault-clause-outcome g c = λ t a e s. let four = c.without_session.ensures.status in no_answer c.without_session.result.status a (g.K.Sink.taken c.args.out.now) (omega (arith, four))

pub returns-clause-outcome : goal.returns-clause-outcome
returns-clause-outcome g c = λ t a e s.
    let six = c.without_session-in-Err-OutOfMemory.ensures.status in
    no_answer c.without_session-in-Err-OutOfMemory.result.status a (g.K.Sink.taken c.args.out.now) (omega (arith, six))
