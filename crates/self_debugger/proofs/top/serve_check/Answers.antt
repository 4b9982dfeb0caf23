use Rattle.std.specs.Prelude.{codes}
use Rattle.self_debugger.specs.Answer.{Answer}
use Rattle.self_debugger.specs.Headline.{Outcome}
use Rattle.self_debugger.specs.WorldFiles.{too_long}
use Rattle.self_debugger.proofs.Cases.{of_refused_check}
use Rattle.self_debugger.proofs.top.serve_check.Goals as goal

pub returns-in-Err-TooLong-clause-outcome : goal.returns-in-Err-TooLong-clause-outcome
returns-in-Err-TooLong-clause-outcome g c = λ w a told s.
    let P : Answer → Type 0 = λ x. Outcome c.tell.result.status x (g.K.Sink.taken c.args.out.now) (g.K.Sink.taken c.tell.new.out) in
    of_refused_check 0 P w (codes "world refused TooLong\n") (too_long (c.in-Err-TooLong.ensures.too_long (cc (c.in-Err-TooLong.field-0-is)) w told)) c.tell.ensures.outcome s
