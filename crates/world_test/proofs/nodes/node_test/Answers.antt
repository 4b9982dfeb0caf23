use Rattle.std.proofs.Common.{sym, arith}
use Rattle.std.proofs.lemmas.Bool.{lt-leb}
use Rattle.self_terms.specs.Depths.{taken, depth}
use Rattle.world_test.proofs.Parts.{node_lacks}
use Rattle.world_test.proofs.nodes.node_test.Goals as goal

pub returns-then-taken-over : goal.returns-then-taken-over
returns-then-taken-over c =
    sym
    (node_lacks c.args.world.now.bodies c.args.n c.args.k c.args.body.now c.node_at-node.result c.requires.body c.node_at-node.ensures
    (lt-leb (taken c.node_at-node.result) (depth c.args.body.now.nodes c.args.k) (omega (arith, c.taken.ensures, c.requires.deep))))
