use Rattle.std.specs.Prelude.{codes, length}
use Rattle.self_debugger.specs.WorldFiles.{too_long}
use Rattle.self_debugger.specs.Answer.{Answer}
use Rattle.self_debugger.specs.Headline.{Outcome}
use Rattle.self_debugger.proofs.Cases.{of_refused}
use Rattle.self_debugger.proofs.top.serve_world.Goals as goal

pub returns-in-Err-TooLong-clause-outcome : goal.returns-in-Err-TooLong-clause-outcome
returns-in-Err-TooLong-clause-outcome g c = λ w a told s.
    let P : Answer → Type 0 = λ x. Outcome c.tell.result.status x (g.K.Sink.taken c.args.out.now) (g.K.Sink.taken c.tell.new.out) in
    of_refused (length c.args.advisors.items) P w (codes "world refused TooLong\n") (g.S.Source.left c.args.script.now) (too_long (c.in-Err-TooLong.ensures.too_long (cc (c.in-Err-TooLong.field-0-is)) w told)) c.tell.ensures.outcome s
