use Rattle.std.proofs.Common.{◌+◌, List, length, drop, subst, arith}
use Rattle.session_text.specs.declared.commands.Command.{Command}
use Rattle.world_build.proofs.Fronts.{drop_there}
use Rattle.plain_session.proofs.Obeying.{on_err}
use Rattle.self_debugger.specs.Parts.{IsAmid}
use Rattle.self_debugger.proofs.Folding.{at_first, amid_next, broke_front, done_shows, done_takes, there, built_at, none_behind}
use Rattle.self_debugger.proofs.Taking.{no_front}
use Rattle.self_debugger.proofs.top.run_commands.Goals as goal

pub returns-in_err-session-clause-front : goal.returns-in_err-session-clause-front
returns-in_err-session-clause-front g c = on_err c.from_residual.result _ (no_front _ _)

pub returns-in_err-line-clause-front : goal.returns-in_err-line-clause-front
returns-in_err-line-clause-front g c = on_err c.from_residual-in_err-line.result _ (no_front _ _)

pub loop-at-init : goal.loop-at-init
loop-at-init g c =
    let none = c.in_ok-session.ensures.counted in
    let undone = c.in_ok-session.ensures.instructions in
    let unserved = c.in_ok-session.ensures.services in
    record { amid = at_first (length c.args.advisors.items) c.args.image.world c.args.commands.now c.in_ok-session.session (g.K.Sink.taken c.args.out.now) c.in_ok-session.ensures.shows c.in_ok-session.ensures.idle c.in_ok-session.ensures.instructions c.in_ok-session.ensures.services; counted = omega (arith, none); did = omega (arith, undone); served = omega (arith, unserved); later = omega arith }

pub obey-requires-clause-built : goal.obey-requires-clause-built
obey-requires-clause-built g c = built_at c.args.commands.now c.loop-at.at c.index-commands-at.result c.requires.built (there c.args.commands.now c.loop-at.at c.index-commands-at.result c.loop-at-test.true c.index-commands-at.is)

pub returns-in_err-obey-clause-front : goal.returns-in_err-obey-clause-front
returns-in_err-obey-clause-front g c =
    let handed = length c.args.advisors.items in
    let w = c.args.image.world in
    let cs = c.args.commands.now in
    let old = g.K.Sink.taken c.args.out.now in
    let mid = g.K.Sink.taken c.loop-at.out in
    let P : List Command → Type 0 = λ l. IsAmid handed w cs l c.loop-at.session old mid in
    on_err c.from_residual-in_err-obey.result _
    (broke_front handed w cs c.index-commands-at.result (drop (c.loop-at.at + 1) cs) c.loop-at.session c.obey.new.session old mid (g.K.Sink.taken c.obey.new.out)
    (subst P (drop_there cs c.loop-at.at c.index-commands-at.result (there c.args.commands.now c.loop-at.at c.index-commands-at.result c.loop-at-test.true c.index-commands-at.is)) c.loop-at.invariant.amid) c.in_err-obey.ensures.broke)

pub loop-at-preserved : goal.loop-at-preserved
loop-at-preserved g c =
    let handed = length c.args.advisors.items in
    let w = c.args.image.world in
    let cs = c.args.commands.now in
    let old = g.K.Sink.taken c.args.out.now in
    let mid = g.K.Sink.taken c.loop-at.out in
    let P : List Command → Type 0 = λ l. IsAmid handed w cs l c.loop-at.session old mid in
    let counted = c.loop-at.invariant.counted in
    let more = c.in_ok-obey.ensures.counted in
    let did = c.loop-at.invariant.did in
    let served = c.loop-at.invariant.served in
    let rose = c.in_ok-obey.ensures.rose in
    let more_done = rose.instructions in
    let more_served = rose.services in
    let before = c.loop-at.invariant.later in
    let later = c.obey.ensures.later in
    record {
      amid = amid_next handed w cs c.index-commands-at.result (drop (c.loop-at.at + 1) cs) c.loop-at.session c.obey.new.session old mid (g.K.Sink.taken c.obey.new.out)
          (subst P (drop_there cs c.loop-at.at c.index-commands-at.result (there c.args.commands.now c.loop-at.at c.index-commands-at.result c.loop-at-test.true c.index-commands-at.is)) c.loop-at.invariant.amid) c.in_ok-obey.ensures.did;
      counted = omega (arith, counted, more);
      did = omega (arith, did, more_done);
      served = omega (arith, served, more_served);
      later = omega (arith, before, later);
    }

pub returns-clause-all : goal.returns-clause-all
returns-clause-all g c =
    let handed = length c.args.advisors.items in
    let w = c.args.image.world in
    let cs = c.args.commands.now in
    let old = g.K.Sink.taken c.args.out.now in
    let now = g.K.Sink.taken c.loop-at.out in
    let P : List Command → Type 0 = λ l. IsAmid handed w cs l c.loop-at.session old now in
    done_takes handed w cs c.loop-at.session old now (subst P (none_behind cs c.loop-at.at (let past = c.loop-at-test.false in omega (arith, past))) c.loop-at.invariant.amid)

pub returns-clause-shown : goal.returns-clause-shown
returns-clause-shown g c =
    let handed = length c.args.advisors.items in
    let w = c.args.image.world in
    let cs = c.args.commands.now in
    let old = g.K.Sink.taken c.args.out.now in
    let now = g.K.Sink.taken c.loop-at.out in
    let P : List Command → Type 0 = λ l. IsAmid handed w cs l c.loop-at.session old now in
    done_shows handed w cs c.loop-at.session old now (subst P (none_behind cs c.loop-at.at (let past = c.loop-at-test.false in omega (arith, past))) c.loop-at.invariant.amid)
