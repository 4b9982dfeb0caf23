use Rattle.std.proofs.Common.{List, subst}
use Rattle.std.specs.Prelude.{OnErr, reverse}
use Rattle.io_ports.specs.Causes.{TakesFront}
use Rattle.session_text.specs.Frames.{acts_text}
use Rattle.session_text.specs.declared.acts.ShownAct.{ShownAct}
use Rattle.plain_host.specs.Hosted.{host}
use Rattle.plain_runs.specs.Host.{Host}
use Rattle.plain_show.specs.Showing.{flushed_host}
use Rattle.plain_session.proofs.stacks.StackWriter.write.Goals as goal

pub returns-clause-front : goal.returns-clause-front
returns-clause-front g c =
    let P : List ShownAct → Host → Type 0 = λ xs h. OnErr c.put_frames.result (TakesFront (g.K.Sink.taken c.args.out.now) (g.K.Sink.taken c.put_frames.new.out) (acts_text c.args.language.now.core c.args.language.now.names h.bodies (reverse xs))) in
    subst (λ (xs : List ShownAct). P xs (flushed_host (host c.args.hosting.now))) c.show.ensures.shown (subst (λ (h : Host). P c.show.new.into h) c.show.ensures.host c.put_frames.ensures.front)
