use Rattle.plain_session.specs.Commands.{finishes}
use Rattle.plain_session.proofs.Finished.{nobody_finishes, ended_finishes}
use Rattle.plain_session.proofs.Obeying.{rests_inside, says_line, stays_led, stays_few}
use Rattle.plain_session.proofs.sessions.Session.finish.Goals as goal

pub returns-in-Nobody-clause-obeys : goal.returns-in-Nobody-clause-obeys
returns-in-Nobody-clause-obeys g c = says_line c.args.self.now c.args.self.now (finishes c.args.steps) (g.K.Sink.taken c.args.out.now) _ (nobody_finishes c.args.self.now c.args.steps (λ s r. c.in-Nobody.ensures.source s (rests_inside c.args.self.now c.self.inside.hosting c.self.inside.walk c.self.inside.language c.self.inside.instructions c.self.inside.services c.self.view_is s r)))

pub returns-in-Nobody-clause-led : goal.returns-in-Nobody-clause-led
returns-in-Nobody-clause-led g c = stays_led c.args.self.now

pub returns-in-Nobody-clause-rose : goal.returns-in-Nobody-clause-rose
returns-in-Nobody-clause-rose g c = stays_few c.args.self.now

pub returns-in-Ended-clause-obeys : goal.returns-in-Ended-clause-obeys
returns-in-Ended-clause-obeys g c = says_line c.args.self.now c.args.self.now (finishes c.args.steps) (g.K.Sink.taken c.args.out.now) _ (ended_finishes c.args.self.now c.args.steps (λ s r. c.in-Ended.ensures.source s (rests_inside c.args.self.now c.self.inside.hosting c.self.inside.walk c.self.inside.language c.self.inside.instructions c.self.inside.services c.self.view_is s r)))

pub returns-in-Ended-clause-led : goal.returns-in-Ended-clause-led
returns-in-Ended-clause-led g c = stays_led c.args.self.now

pub returns-in-Ended-clause-rose : goal.returns-in-Ended-clause-rose
returns-in-Ended-clause-rose g c = stays_few c.args.self.now
