use Rattle.std.proofs.Common.{◌++◌}
use Rattle.plain_session.specs.Stacks.{rest_text}
use Rattle.plain_session.proofs.Obeying.{err_then}
use Rattle.self_debugger.proofs.Taking.{takes_both, front_of_both, ok_on}
use Rattle.self_debugger.proofs.top.obey_plain.Goals as goal

pub returns-in-Ok-clause-did : goal.returns-in-Ok-clause-did
returns-in-Ok-clause-did g c =
    let taken = g.K.Sink.taken in
    let o = c.in-Ok.ensures.obeys in
    ok_on c.put_rest.result c.put_rest.ensures.all
    (λ t. record {
      text = o.said ++ rest_text c.in-Ok.rest;
      obeys = o.obeys;
      took = takes_both (taken c.args.out.now) (taken c.obey.new.out) (taken c.put_rest.new.out) o.said (rest_text c.in-Ok.rest) o.takes t;
      led = c.in-Ok.ensures.led;
    })

pub returns-in-Ok-clause-broke : goal.returns-in-Ok-clause-broke
returns-in-Ok-clause-broke g c =
    let taken = g.K.Sink.taken in
    let o = c.in-Ok.ensures.obeys in
    err_then c.put_rest.result c.put_rest.ensures.front
    (λ t q sh. (o.said ++ rest_text c.in-Ok.rest, (o.obeys q sh).1, front_of_both (taken c.args.out.now) (taken c.obey.new.out) (taken c.put_rest.new.out) o.said (rest_text c.in-Ok.rest) o.takes t))
