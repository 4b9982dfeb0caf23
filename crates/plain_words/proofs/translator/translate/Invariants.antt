use Rattle.std.proofs.Common.{◌≡◌, ◌≤◌, ◌*◌, drop}
use Rattle.std.specs.Prelude.{◌++◌}
use Rattle.self_terms.specs.Depths.{depth}
use Rattle.plain_words.specs.Units.{unit_code, unit_points, nodes_code, nodes_points}
use Rattle.plain_words.proofs.translator.translate.Given as goal

abbrev pub invariant-loop-k : goal.invariant-loop-k
invariant-loop-k l = record {
  code : l.unit.code.items ++ nodes_code l.references l.owns l.locals l.at l.over (drop l.k l.body.nodes) ≡ unit_code l.references l.body;
  points : l.unit.points.items ++ nodes_points l.references l.owns l.locals l.number l.k l.at l.over (drop l.k l.body.nodes) ≡ unit_points l.references l.number l.body;
  deep : l.over ≡ depth l.body.nodes l.k;
  near : l.at ≤ 74 * l.k;
}
