use Rattle.std.proofs.Common.{subst}
use Rattle.plain_host.specs.Hosted.{host}
use Rattle.plain_core.specs.Turning.{Served}
use Rattle.plain_core.specs.declared.turning.Turn.{Turn}
use Rattle.plain_core.proofs.Joining.{goes, turns_on, turns_end}
use Rattle.plain_core.proofs.Rounds.{still_room}
use Rattle.plain_core.proofs.turning.take_turn.Goals as goal

pub go-came-requires : goal.go-came-requires
go-came-requires g c = goes c.args.language.now c.args.trap c.args.target (host c.args.hosting.now) (host c.serve.new.hosting) (g.K.Sink.taken c.args.out.now) (g.K.Sink.taken c.serve.new.out) c.in_ok-serve.field-0 c.in-On.is c.requires.at c.in_ok-serve.ensures.served

pub returns-in-On-clause-on : goal.returns-in-On-clause-on
returns-in-On-clause-on g c =
    let P : Turn → Type 0 = λ t. Served c.args.language.now c.args.trap (host c.args.hosting.now) (host c.serve.new.hosting) c.args.target (g.K.Sink.taken c.args.out.now) (g.K.Sink.taken c.serve.new.out) t in
    turns_on c.args.language.now c.args.trap c.args.target (host c.args.hosting.now) (host c.serve.new.hosting) (host c.go-came.new.hosting) (g.K.Sink.taken c.args.out.now) (g.K.Sink.taken c.serve.new.out) c.go-came.result.trap c.go-came.result.instructions c.go-came.ensures.came c.go-came.ensures.went c.go-came.ensures.few c.requires.at (subst P c.in-On.is c.in_ok-serve.ensures.served)

pub returns-in-On-clause-roomy : goal.returns-in-On-clause-roomy
returns-in-On-clause-roomy g c = still_room (host c.serve.new.hosting) (host c.go-came.new.hosting) c.serve.new.walk c.go-came.result.instructions c.go-came.ensures.went c.in_ok-serve.ensures.roomy

pub returns-in-Ended-clause-on : goal.returns-in-Ended-clause-on
returns-in-Ended-clause-on g c = turns_end c.args.language.now c.args.trap c.args.target (host c.args.hosting.now) (host c.serve.new.hosting) (g.K.Sink.taken c.args.out.now) (g.K.Sink.taken c.serve.new.out) c.in_ok-serve.field-0 c.in-Ended.is c.in_ok-serve.ensures.served
