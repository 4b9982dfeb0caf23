use Rattle.std.proofs.Common.{◌≡◌, ◌≤◌, drop}
use Rattle.self_terms.specs.Depths.{depth}
use Rattle.plain_words.specs.Units.{deepest, larger}
use Rattle.plain_words.proofs.translator.deepest.Given as goal

abbrev pub invariant-loop-k : goal.invariant-loop-k
invariant-loop-k l = record {
  left : deepest 0 l.body.nodes ≡ larger l.most (deepest l.over (drop l.k l.body.nodes));
  most : l.over ≤ l.most;
  small : l.most ≤ 64;
  deep : l.over ≡ depth l.body.nodes l.k;
}
