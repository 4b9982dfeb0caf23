use Rattle.std.proofs.Common.{◌∙◌, ap, arith}
use Rattle.source_model.specs.Names.{number_of}
use Rattle.plain_session.specs.Sessions.{host_of}
use Rattle.plain_session.proofs.Obeying.{still_room, spawned_obeys, spawned_rests, spawned_counts, are_led, are_few, on_err}
use Rattle.plain_session.proofs.sessions.Session.spawn.Goals as goal

pub returns-in_err-birth-clause-unchanged : goal.returns-in_err-birth-clause-unchanged
returns-in_err-birth-clause-unchanged c = on_err c.from_residual.result _ (c.in_err-birth.ensures.unchanged ∙ ap host_of c.self.view_is)

pub birth_line-requires : goal.birth_line-requires
birth_line-requires c = spawned_rests c.args.self.now c.self.inside.hosting c.spawn.new.hosting c.self.inside.walk c.spawn.new.walk c.self.inside.language c.self.inside.instructions c.self.inside.services c.self.inside.instructions c.self.inside.services c.self.view_is c.requires.shows c.in_ok-birth.ensures.references (still_room c.args.self.now c.self.inside.hosting c.spawn.new.hosting c.self.inside.walk c.spawn.new.walk c.self.inside.language c.self.inside.instructions c.self.inside.services c.self.view_is c.requires.shows c.spawn.ensures.same c.in_ok-birth.ensures.objects) c.number_of-number.result c.args.name.now c.in_ok-birth.birth (c.number_of-number.ensures ∙ ap (λ ns. number_of ns c.args.name.now) c.names.ensures) c.requires.plain c.in_ok-birth.ensures.born

pub returns-clause-obeys : goal.returns-clause-obeys
returns-clause-obeys c = spawned_obeys c.args.self.now c.self.inside.hosting c.spawn.new.hosting c.self.inside.walk c.spawn.new.walk c.self.inside.language c.self.inside.instructions c.self.inside.services c.self.inside.instructions c.self.inside.services c.self.view_is c.requires.shows c.in_ok-birth.ensures.references (still_room c.args.self.now c.self.inside.hosting c.spawn.new.hosting c.self.inside.walk c.spawn.new.walk c.self.inside.language c.self.inside.instructions c.self.inside.services c.self.view_is c.requires.shows c.spawn.ensures.same c.in_ok-birth.ensures.objects) c.number_of-number.result c.args.name.now c.in_ok-birth.birth (c.number_of-number.ensures ∙ ap (λ ns. number_of ns c.args.name.now) c.names.ensures) c.requires.plain c.in_ok-birth.ensures.born _ c.birth_line.ensures.line

pub returns-clause-counted : goal.returns-clause-counted
returns-clause-counted c = spawned_counts c.args.self.now c.self.inside.hosting c.spawn.new.hosting c.self.inside.walk c.spawn.new.walk c.self.inside.language c.self.inside.instructions c.self.inside.services c.self.inside.instructions c.self.inside.services c.self.view_is c.requires.shows c.in_ok-birth.ensures.references (still_room c.args.self.now c.self.inside.hosting c.spawn.new.hosting c.self.inside.walk c.spawn.new.walk c.self.inside.language c.self.inside.instructions c.self.inside.services c.self.view_is c.requires.shows c.spawn.ensures.same c.in_ok-birth.ensures.objects) c.number_of-number.result c.args.name.now c.in_ok-birth.birth (c.number_of-number.ensures ∙ ap (λ ns. number_of ns c.args.name.now) c.names.ensures) c.requires.plain c.in_ok-birth.ensures.born

pub returns-clause-led : goal.returns-clause-led
returns-clause-led c = are_led c.args.self.now c.self.inside.hosting c.spawn.new.hosting c.self.inside.walk c.spawn.new.walk c.self.inside.language c.self.inside.instructions c.self.inside.services c.self.inside.instructions c.self.inside.services c.self.view_is c.requires.shows c.in_ok-birth.ensures.references (still_room c.args.self.now c.self.inside.hosting c.spawn.new.hosting c.self.inside.walk c.spawn.new.walk c.self.inside.language c.self.inside.instructions c.self.inside.services c.self.view_is c.requires.shows c.spawn.ensures.same c.in_ok-birth.ensures.objects) 0 0 c.in_ok-birth.ensures.led (omega arith) (omega arith)

pub returns-clause-rose : goal.returns-clause-rose
returns-clause-rose c = are_few c.args.self.now c.self.inside.hosting c.spawn.new.hosting c.self.inside.walk c.spawn.new.walk c.self.inside.language c.self.inside.instructions c.self.inside.services c.self.inside.instructions c.self.inside.services c.self.view_is c.requires.shows c.in_ok-birth.ensures.references (still_room c.args.self.now c.self.inside.hosting c.spawn.new.hosting c.self.inside.walk c.spawn.new.walk c.self.inside.language c.self.inside.instructions c.self.inside.services c.self.view_is c.requires.shows c.spawn.ensures.same c.in_ok-birth.ensures.objects) 0 0 (omega arith) (omega arith) (omega arith) (omega arith)
