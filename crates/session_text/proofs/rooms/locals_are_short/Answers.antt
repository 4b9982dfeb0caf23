use Rattle.std.proofs.Common.{arith}
use Rattle.source_model.specs.Lines.{local_names}
use Rattle.session_text.proofs.FrameSteps.{locals_long}
use Rattle.session_text.proofs.rooms.locals_are_short.Goals as goal

pub returns : goal.returns
returns c =
    let long = locals_long c.args.core c.args.names.now (local_names c.args.body.now) c.args.values.now in
    let few = c.requires.few in
    let names = c.requires.short.locals in
    let values = c.values_are_short.ensures in
    omega (arith, long, few, names, values)
