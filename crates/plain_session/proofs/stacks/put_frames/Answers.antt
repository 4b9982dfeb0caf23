use Rattle.std.proofs.Common.{◌∙◌, ◌+◌, ◌-◌, ◌≤◌, length, ap, sym, subst, arith}
use Rattle.plain_host.specs.Hosted.{host}
use Rattle.plain_session.proofs.Obeying.{on_err}
use Rattle.plain_session.proofs.Stacking.{Took, took_first, took_next, took_all, front_next}
use Rattle.plain_session.proofs.stacks.put_frames.Goals as goal

pub loop-at-init : goal.loop-at-init
loop-at-init g c = record { took = took_first c.args.language.now.core c.args.language.now.names (host c.args.hosting.now).bodies c.args.shown.now (g.K.Sink.taken c.args.out.now); later = omega arith }

pub put_frame-requires-clause-named : goal.put_frame-requires-clause-named
put_frame-requires-clause-named g c =
    let few = c.requires.few in
    let all = c.len-count.ensures in
    let on = c.loop-at-test.true in
    c.requires.named _ (omega (arith, few, all, on)) (omega (arith, few, all, on))

pub loop-at-preserved : goal.loop-at-preserved
loop-at-preserved g c =
    let few = c.requires.few in
    let all = c.len-count.ensures in
    let on = c.loop-at-test.true in
    let before = c.loop-at.invariant.later in
    let later = c.put_frame.ensures.cause.later in
    record {
      took = took_next c.args.language.now.core c.args.language.now.names (host c.args.hosting.now).bodies c.args.shown.now _ c.loop-at.at (omega (arith, few, all)) (omega (arith, few, all, on)) (g.K.Sink.taken c.args.out.now) (g.K.Sink.taken c.loop-at.out) (g.K.Sink.taken c.put_frame.new.out) c.loop-at.invariant.took c.in_ok-put_frame.ensures.all;
      later = omega (arith, before, later);
    }

pub returns-in_err-put_frame-clause-front : goal.returns-in_err-put_frame-clause-front
returns-in_err-put_frame-clause-front g c =
    let few = c.requires.few in
    let all = c.len-count.ensures in
    let on = c.loop-at-test.true in
    on_err c.from_residual.result _
    (front_next c.args.language.now.core c.args.language.now.names (host c.args.hosting.now).bodies c.args.shown.now _ c.loop-at.at (omega (arith, few, all)) (omega (arith, few, all, on)) (g.K.Sink.taken c.args.out.now) (g.K.Sink.taken c.loop-at.out) (g.K.Sink.taken c.put_frame.new.out) c.loop-at.invariant.took c.in_err-put_frame.ensures.front)

pub returns-clause-all : goal.returns-clause-all
returns-clause-all g c =
    let few = c.requires.few in
    let all = c.len-count.ensures in
    let past = c.loop-at-test.false in
    took_all c.args.language.now.core c.args.language.now.names (host c.args.hosting.now).bodies c.args.shown.now (g.K.Sink.taken c.args.out.now) (g.K.Sink.taken c.loop-at.out)
    (subst (λ k. Took c.args.language.now.core c.args.language.now.names (host c.args.hosting.now).bodies c.args.shown.now k (g.K.Sink.taken c.args.out.now) (g.K.Sink.taken c.loop-at.out)) (omega (arith, few, all, past)) c.loop-at.invariant.took)
