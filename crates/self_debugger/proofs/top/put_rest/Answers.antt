use Rattle.std.proofs.Common.{sym, subst}
use Rattle.std.specs.Prelude.{Option}
use Rattle.io_ports.specs.Causes.{Takes}
use Rattle.session_text.specs.declared.lines.LineText.{LineText}
use Rattle.plain_session.specs.Stacks.{rest_text}
use Rattle.self_debugger.proofs.Taking.{takes_none}
use Rattle.self_debugger.proofs.top.put_rest.Goals as goal

pub returns-in-None-clause-all : goal.returns-in-None-clause-all
returns-in-None-clause-all g c =
    let taken = g.K.Sink.taken c.args.out.now in
    let P : Option LineText → Type 0 = λ rest. Takes taken taken (rest_text rest) in
    subst P (sym c.in-None.is) (takes_none taken)
