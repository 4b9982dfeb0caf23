use Rattle.std.proofs.Common.{ℕ, List, subst}
use Rattle.std.specs.Prelude.{OnOk, OnErr}
use Rattle.io_ports.specs.Causes.{Takes, TakesFront}
use Rattle.plain_host.specs.Hosted.{host}
use Rattle.plain_session.proofs.Stacking.{frame_is}
use Rattle.plain_session.proofs.stacks.put_frame.Goals as goal

pub returns-clause-all : goal.returns-clause-all
returns-clause-all g c =
    let P : List ℕ → Type 0 = λ t. OnOk c.write_all.result (Takes (g.K.Sink.taken c.args.out.now) (g.K.Sink.taken c.write_all.new.out) t) in
    subst P
    (frame_is c.args.language.now.core c.core-2.result c.args.language.now.names c.names-2.result.now (host c.args.hosting.now).bodies c.body-body.result.now c.args.position c.at-act.result.now _ _ _ c.core-2.ensures c.names-2.ensures c.body-body.ensures c.at-act.ensures c.put_activation.ensures c.bytes.ensures)
    c.write_all.ensures.all

pub returns-clause-front : goal.returns-clause-front
returns-clause-front g c =
    let P : List ℕ → Type 0 = λ t. OnErr c.write_all.result (TakesFront (g.K.Sink.taken c.args.out.now) (g.K.Sink.taken c.write_all.new.out) t) in
    subst P
    (frame_is c.args.language.now.core c.core-2.result c.args.language.now.names c.names-2.result.now (host c.args.hosting.now).bodies c.body-body.result.now c.args.position c.at-act.result.now _ _ _ c.core-2.ensures c.names-2.ensures c.body-body.ensures c.at-act.ensures c.put_activation.ensures c.bytes.ensures)
    c.write_all.ensures.front
