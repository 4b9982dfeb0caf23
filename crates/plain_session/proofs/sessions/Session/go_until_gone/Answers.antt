use Rattle.std.proofs.Common.{◌+◌, refl, ◌∙◌, sym, arith}
use Rattle.plain_session.proofs.Finished.{stopped_inside, finished_rests, finished_there, finished_counts, finished_obeys, finished_led}
use Rattle.plain_session.proofs.Obeying.{can_run, known_inside, are_few, on_err}
use Rattle.plain_session.proofs.sessions.Session.go_until_gone.Goals as goal

pub finish-requires-clause-rests : goal.finish-requires-clause-rests
finish-requires-clause-rests g c = can_run c.args.self.now c.self.inside.hosting c.self.inside.walk c.self.inside.language c.self.inside.instructions c.self.inside.services c.self.view_is c.requires.shows c.requires.goes

pub finish-requires-clause-known : goal.finish-requires-clause-known
finish-requires-clause-known g c = known_inside c.args.self.now c.self.inside.hosting c.self.inside.walk c.self.inside.language c.self.inside.instructions c.self.inside.services c.self.view_is c.requires.shows

pub returns-in_err-taken-clause-broken : goal.returns-in_err-taken-clause-broken
returns-in_err-taken-clause-broken g c = on_err c.from_residual.result _ (stopped_inside c.args.self.now c.self.inside.hosting c.self.inside.walk c.self.inside.language c.self.inside.instructions c.self.inside.services c.self.view_is c.args.steps (g.K.Sink.taken c.args.out.now) (g.K.Sink.taken c.finish.new.out) c.requires.stands c.in_err-taken.ensures.broken)

pub run_line-requires-clause-rests : goal.run_line-requires-clause-rests
run_line-requires-clause-rests g c =
    let r = finished_rests c.args.self.now c.self.inside.hosting c.finish.new.hosting c.self.inside.walk c.finish.new.walk c.self.inside.language c.self.inside.instructions c.self.inside.services (c.self.inside.instructions + c.in_ok-taken.taken.instructions) (c.self.inside.services + c.in_ok-taken.taken.services) c.self.view_is c.requires.shows c.in_ok-taken.ensures.same c.in_ok-taken.ensures.roomy c.args.steps c.in_ok-taken.taken (g.K.Sink.taken c.args.out.now) (g.K.Sink.taken c.finish.new.out) c.in_ok-taken.ensures.finished c.requires.stands in
    (r.0, r.1, r.2 ∙ sym c.core.ensures)

pub run_line-requires-clause-there : goal.run_line-requires-clause-there
run_line-requires-clause-there g c = finished_there c.args.self.now c.self.inside.hosting c.finish.new.hosting c.self.inside.walk c.finish.new.walk c.self.inside.language c.self.inside.instructions c.self.inside.services (c.self.inside.instructions + c.in_ok-taken.taken.instructions) (c.self.inside.services + c.in_ok-taken.taken.services) c.self.view_is c.requires.shows c.in_ok-taken.ensures.same c.in_ok-taken.ensures.roomy c.args.steps c.in_ok-taken.taken (g.K.Sink.taken c.args.out.now) (g.K.Sink.taken c.finish.new.out) c.in_ok-taken.ensures.finished c.requires.stands c.requires.goes

pub run_line-requires-clause-counted : goal.run_line-requires-clause-counted
run_line-requires-clause-counted g c =
    let counts = finished_counts c.args.self.now c.self.inside.hosting c.finish.new.hosting c.self.inside.walk c.finish.new.walk c.self.inside.language c.self.inside.instructions c.self.inside.services (c.self.inside.instructions + c.in_ok-taken.taken.instructions) (c.self.inside.services + c.in_ok-taken.taken.services) c.self.view_is c.requires.shows c.in_ok-taken.ensures.same c.in_ok-taken.ensures.roomy c.args.steps c.in_ok-taken.taken (g.K.Sink.taken c.args.out.now) (g.K.Sink.taken c.finish.new.out) c.in_ok-taken.ensures.finished c.requires.stands in
    let few = c.requires.few in
    let counted = c.requires.counted in
    omega (arith, counts, few, counted)

pub returns-clause-obeys : goal.returns-clause-obeys
returns-clause-obeys g c = finished_obeys c.args.self.now c.self.inside.hosting c.finish.new.hosting c.self.inside.walk c.finish.new.walk c.self.inside.language c.self.inside.instructions c.self.inside.services (c.self.inside.instructions + c.in_ok-taken.taken.instructions) (c.self.inside.services + c.in_ok-taken.taken.services) c.self.view_is c.requires.shows c.in_ok-taken.ensures.same c.in_ok-taken.ensures.roomy c.args.steps c.in_ok-taken.taken (g.K.Sink.taken c.args.out.now) (g.K.Sink.taken c.finish.new.out) c.in_ok-taken.ensures.finished c.requires.stands _ (λ s r same. c.run_line.ensures.line s r (same ∙ sym c.core.ensures))

pub returns-clause-counted : goal.returns-clause-counted
returns-clause-counted g c = finished_counts c.args.self.now c.self.inside.hosting c.finish.new.hosting c.self.inside.walk c.finish.new.walk c.self.inside.language c.self.inside.instructions c.self.inside.services (c.self.inside.instructions + c.in_ok-taken.taken.instructions) (c.self.inside.services + c.in_ok-taken.taken.services) c.self.view_is c.requires.shows c.in_ok-taken.ensures.same c.in_ok-taken.ensures.roomy c.args.steps c.in_ok-taken.taken (g.K.Sink.taken c.args.out.now) (g.K.Sink.taken c.finish.new.out) c.in_ok-taken.ensures.finished c.requires.stands

pub returns-clause-led : goal.returns-clause-led
returns-clause-led g c = finished_led c.args.self.now c.self.inside.hosting c.finish.new.hosting c.self.inside.walk c.finish.new.walk c.self.inside.language c.self.inside.instructions c.self.inside.services (c.self.inside.instructions + c.in_ok-taken.taken.instructions) (c.self.inside.services + c.in_ok-taken.taken.services) c.self.view_is c.requires.shows c.in_ok-taken.ensures.same c.in_ok-taken.ensures.roomy c.args.steps c.in_ok-taken.taken (g.K.Sink.taken c.args.out.now) (g.K.Sink.taken c.finish.new.out) c.in_ok-taken.ensures.finished c.requires.stands refl refl

pub returns-clause-rose : goal.returns-clause-rose
returns-clause-rose g c = are_few c.args.self.now c.self.inside.hosting c.finish.new.hosting c.self.inside.walk c.finish.new.walk c.self.inside.language c.self.inside.instructions c.self.inside.services (c.self.inside.instructions + c.in_ok-taken.taken.instructions) (c.self.inside.services + c.in_ok-taken.taken.services) c.self.view_is c.requires.shows c.in_ok-taken.ensures.same c.in_ok-taken.ensures.roomy c.in_ok-taken.taken.instructions c.in_ok-taken.taken.services refl refl c.in_ok-taken.ensures.few.instructions c.in_ok-taken.ensures.few.services
