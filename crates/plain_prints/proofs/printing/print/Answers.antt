use Rattle.std.proofs.Common.{[], sym}
use Rattle.plain_host.specs.Hosted.{host}
use Rattle.plain_prints.proofs.Taking.{takes_none}
use Rattle.plain_prints.proofs.Telling.{says_nothing, text_said, text_broke, integer_said, integer_broke}
use Rattle.plain_prints.proofs.printing.print.Goals as goal

pub returns-in-Nothing-clause-said : goal.returns-in-Nothing-clause-said
returns-in-Nothing-clause-said g c = ([], says_nothing (host c.args.hosting.now) c.args.prim (sym c.in-Nothing.ensures), takes_none (g.K.Sink.taken c.args.out.now))

pub returns-in-Text-clause-said : goal.returns-in-Text-clause-said
returns-in-Text-clause-said g c = text_said (host c.args.hosting.now) c.args.prim c.print_string.result _ _ _ _ _ (sym c.in-Text.ensures) c.maps.ensures c.memory.ensures c.register-receiver.ensures c.print_string.ensures.said

pub returns-in-Text-clause-front : goal.returns-in-Text-clause-front
returns-in-Text-clause-front g c = text_broke (host c.args.hosting.now) c.args.prim c.print_string.result _ _ _ _ _ (sym c.in-Text.ensures) c.maps.ensures c.memory.ensures c.register-receiver.ensures c.print_string.ensures.front

pub returns-in-Integer-clause-said : goal.returns-in-Integer-clause-said
returns-in-Integer-clause-said g c = integer_said (host c.args.hosting.now) c.args.prim c.print_integer.result _ _ _ (sym c.in-Integer.ensures) c.register-receiver.ensures c.print_integer.ensures.said

pub returns-in-Integer-clause-front : goal.returns-in-Integer-clause-front
returns-in-Integer-clause-front g c = integer_broke (host c.args.hosting.now) c.args.prim c.print_integer.result _ _ _ (sym c.in-Integer.ensures) c.register-receiver.ensures c.print_integer.ensures.front
