use Rattle.std.proofs.Common.{◌∙◌, ℕ, List, subst}
use Rattle.io_ports.specs.Causes.{Takes, TakesFront}
use Rattle.plain_session.proofs.Obeying.{on_err}
use Rattle.self_debugger.proofs.top.put_line.Goals as goal

pub returns-in_err-write_all-clause-front : goal.returns-in_err-write_all-clause-front
returns-in_err-write_all-clause-front g c =
    let P : List ℕ → Type 0 = λ t. TakesFront (g.K.Sink.taken c.args.out.now) (g.K.Sink.taken c.write_all.new.out) t in
    on_err c.from_residual.result _ (subst P (c.bytes.ensures ∙ c.put.ensures) c.in_err-write_all.ensures.front)

pub returns-clause-all : goal.returns-clause-all
returns-clause-all g c =
    let P : List ℕ → Type 0 = λ t. Takes (g.K.Sink.taken c.args.out.now) (g.K.Sink.taken c.write_all.new.out) t in
    subst P (c.bytes.ensures ∙ c.put.ensures) c.in_ok-write_all.ensures.all
