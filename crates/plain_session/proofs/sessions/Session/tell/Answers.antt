use Rattle.plain_session.proofs.Obeying.{ok_then, err_then, ok_so}
use Rattle.plain_session.proofs.Telling.{polls, shown_few, shown_named, stack_obeyed, stack_broken, stack_counts, stack_led, stack_few}
use Rattle.plain_session.proofs.sessions.Session.tell.Goals as goal

pub write-requires-clause-poll : goal.write-requires-clause-poll
write-requires-clause-poll g c = polls c.args.self.now c.self.inside.hosting c.self.inside.walk c.self.inside.language c.self.inside.instructions c.self.inside.services c.self.view_is c.requires.shows c.requires.goes

pub write-requires-clause-few : goal.write-requires-clause-few
write-requires-clause-few g c = shown_few c.args.self.now c.self.inside.hosting c.self.inside.walk c.self.inside.language c.self.inside.instructions c.self.inside.services c.self.view_is c.requires.shows c.requires.goes

pub write-requires-clause-named : goal.write-requires-clause-named
write-requires-clause-named g c = shown_named c.args.self.now c.self.inside.hosting c.self.inside.walk c.self.inside.language c.self.inside.instructions c.self.inside.services c.self.view_is c.requires.shows c.requires.goes c.requires.stands

pub returns-clause-obeys : goal.returns-clause-obeys
returns-clause-obeys g c =
    ok_so c.write.result c.write.ensures.all
    (stack_obeyed c.args.self.now c.self.inside.hosting c.self.inside.walk c.self.inside.language c.self.inside.instructions c.self.inside.services c.self.view_is c.requires.shows c.requires.goes c.requires.stands c.write.new.hosting c.write.ensures.host (g.K.Sink.taken c.args.out.now) (g.K.Sink.taken c.write.new.out))

pub returns-clause-broken : goal.returns-clause-broken
returns-clause-broken g c =
    err_then c.write.result c.write.ensures.front
    (stack_broken c.args.self.now c.self.inside.hosting c.self.inside.walk c.self.inside.language c.self.inside.instructions c.self.inside.services c.self.view_is c.requires.shows c.requires.goes c.requires.stands (g.K.Sink.taken c.args.out.now) (g.K.Sink.taken c.write.new.out))

pub returns-clause-counted : goal.returns-clause-counted
returns-clause-counted g c = stack_counts c.args.self.now c.self.inside.hosting c.self.inside.walk c.self.inside.language c.self.inside.instructions c.self.inside.services c.self.view_is c.requires.shows c.requires.goes c.requires.stands c.write.new.hosting c.write.ensures.host

pub returns-clause-led : goal.returns-clause-led
returns-clause-led g c = stack_led c.args.self.now c.self.inside.hosting c.self.inside.walk c.self.inside.language c.self.inside.instructions c.self.inside.services c.self.view_is c.requires.shows c.requires.goes c.requires.stands c.write.new.hosting c.write.ensures.host

pub returns-clause-rose : goal.returns-clause-rose
returns-clause-rose g c = stack_few c.args.self.now c.self.inside.hosting c.self.inside.walk c.self.inside.language c.self.inside.instructions c.self.inside.services c.self.view_is c.requires.shows c.requires.goes c.requires.stands c.write.new.hosting c.write.ensures.host
