use Rattle.std.proofs.Common.{◌-◌, ◌∙◌, ap, arith}
use Rattle.std.specs.Prelude.{length}
use Rattle.plain_session.specs.Sessions.{Session, host_of}
use Rattle.plain_session.proofs.Switching.{none_switches, beyond_switches, frames_flush, frame_place, switched_obeys, switched_counts, switched_led, switched_few}
use Rattle.plain_session.proofs.Obeying.{stays_led}
use Rattle.plain_session.proofs.sessions.Session.switch.Goals as goal

pub returns-then-k-eq0-clause-obeys : goal.returns-then-k-eq0-clause-obeys
returns-then-k-eq0-clause-obeys c = none_switches c.args.self.now c.args.k c.if-k-eq0.true

pub switch-requires-clause-flushes : goal.switch-requires-clause-flushes
switch-requires-clause-flushes c = frames_flush c.args.self.now c.self.inside.hosting c.self.inside.hosting c.self.inside.walk c.self.inside.language c.self.inside.instructions c.self.inside.services c.self.view_is c.requires.shows

pub switch-requires-clause-place : goal.switch-requires-clause-place
switch-requires-clause-place c = λ sp pc count waits away. (frame_place c.args.self.now c.self.inside.hosting c.self.inside.hosting c.self.inside.walk c.self.inside.language c.self.inside.instructions c.self.inside.services c.self.view_is c.requires.shows (c.args.k - 1) sp pc count waits away).0

pub switch-requires-clause-code : goal.switch-requires-clause-code
switch-requires-clause-code c = λ sp pc count waits away. (frame_place c.args.self.now c.self.inside.hosting c.self.inside.hosting c.self.inside.walk c.self.inside.language c.self.inside.instructions c.self.inside.services c.self.view_is c.requires.shows (c.args.k - 1) sp pc count waits away).1

pub returns-clause-obeys : goal.returns-clause-obeys
returns-clause-obeys c = switched_obeys c.args.self.now c.self.inside.hosting c.switch.new.self c.self.inside.walk c.self.inside.language c.self.inside.instructions c.self.inside.services c.self.view_is c.requires.shows c.args.k (c.args.k - 1) (let some = c.if-k-eq0.false in omega (arith, some)) (let some = c.if-k-eq0.false in let few = c.if-k-activities.false in let same = c.activities.ensures in omega (arith, some, few, same)) c.switch.ensures

pub returns-clause-counted : goal.returns-clause-counted
returns-clause-counted c = switched_counts c.args.self.now c.self.inside.hosting c.switch.new.self c.self.inside.walk c.self.inside.language c.self.inside.instructions c.self.inside.services c.self.view_is c.requires.shows c.args.k (c.args.k - 1) (let some = c.if-k-eq0.false in omega (arith, some)) (let some = c.if-k-eq0.false in let few = c.if-k-activities.false in let same = c.activities.ensures in omega (arith, some, few, same)) c.switch.ensures

pub returns-clause-led : goal.returns-clause-led
returns-clause-led c = switched_led c.args.self.now c.self.inside.hosting c.switch.new.self c.self.inside.walk c.self.inside.language c.self.inside.instructions c.self.inside.services c.self.view_is c.requires.shows c.args.k (c.args.k - 1) (let some = c.if-k-eq0.false in omega (arith, some)) (let some = c.if-k-eq0.false in let few = c.if-k-activities.false in let same = c.activities.ensures in omega (arith, some, few, same)) c.switch.ensures

pub returns-clause-rose : goal.returns-clause-rose
returns-clause-rose c = switched_few c.args.self.now c.self.inside.hosting c.switch.new.self c.self.inside.walk c.self.inside.language c.self.inside.instructions c.self.inside.services c.self.view_is c.requires.shows c.args.k (c.args.k - 1) (let some = c.if-k-eq0.false in omega (arith, some)) (let some = c.if-k-eq0.false in let few = c.if-k-activities.false in let same = c.activities.ensures in omega (arith, some, few, same)) c.switch.ensures

pub returns-then-k-eq0-clause-led : goal.returns-then-k-eq0-clause-led
returns-then-k-eq0-clause-led c = stays_led c.args.self.now

pub returns-then-k-activities-clause-obeys : goal.returns-then-k-activities-clause-obeys
returns-then-k-activities-clause-obeys c =
    let past = c.if-k-activities.true in
    let many = c.activities.ensures in
    let same = ap (λ (z : Session). length (host_of z).statuses) c.self.view_is in
    beyond_switches c.args.self.now c.args.k (omega (arith, past, many, same))

pub returns-then-k-activities-clause-led : goal.returns-then-k-activities-clause-led
returns-then-k-activities-clause-led c = stays_led c.args.self.now
