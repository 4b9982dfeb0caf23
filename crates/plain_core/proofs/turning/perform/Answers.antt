use Rattle.std.proofs.Common.{◌∙◌, sym}
use Rattle.plain_core.proofs.Performing.{primitive_here}
use Rattle.plain_core.proofs.turning.perform.Goals as goal

pub unreachable-requires : goal.unreachable-requires
unreachable-requires g c =
    let q = primitive_here _ _ _ c.requires.at in
    let both = sym c.in-None.is ∙ c.node_here.ensures ∙ q.node_is in
    cc
