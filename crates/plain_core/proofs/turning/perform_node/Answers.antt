use Rattle.std.proofs.Common.{◌∙◌, sym}
use Rattle.std.proofs.lemmas.Option.{same_Some}
use Rattle.plain_host.specs.Hosted.{host}
use Rattle.plain_core.proofs.Fronts.{breaks_here}
use Rattle.plain_core.proofs.Handlers.{fails_undefined}
use Rattle.plain_core.proofs.Performing.{primitive_here, few_arguments}
use Rattle.plain_core.proofs.turning.perform_node.Goals as goal

pub give_up-requires-clause-fails : goal.give_up-requires-clause-fails
give_up-requires-clause-fails g c = fails_undefined c.args.language.now (host c.args.hosting.now) c.in-Prim.name c.in-Prim.args (sym c.primitive.ensures ∙ c.in-None.is)

pub perform_known-requires-clause-count : goal.perform_known-requires-clause-count
perform_known-requires-clause-count g c = few_arguments _ _ _ c.requires.at c.args.node c.in-Prim.name c.in-Prim.args c.in-Prim.implied c.in-Prim.handler c.requires.here c.in-Prim.is

pub unreachable-requires : goal.unreachable-requires
unreachable-requires g c =
    let q = primitive_here _ _ _ c.requires.at in
    c.in_default.not-Prim q.name q.args q.implied q.handler (same_Some _ _ (sym c.requires.here ∙ q.node_is))

pub returns-in-Ok-clause-served : goal.returns-in-Ok-clause-served
returns-in-Ok-clause-served g c = c.in-Ok.ensures.served.served (g.K.Sink.taken c.args.out.now)

pub returns-in-Err-clause-broken : goal.returns-in-Err-clause-broken
returns-in-Err-clause-broken g c = breaks_here c.args.language.now 3 (host c.args.hosting.now) c.args.target (g.K.Sink.taken c.args.out.now)
