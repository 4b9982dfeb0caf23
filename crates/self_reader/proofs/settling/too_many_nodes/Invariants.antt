use Rattle.std.proofs.Common.{◌≡◌, drop}
use Rattle.self_grammar.specs.Counts.{too_many_nodes}
use Rattle.self_reader.proofs.settling.too_many_nodes.Given as goal

-- what is found from here on is what is found at all
abbrev pub invariant-loop-m : goal.invariant-loop-m
invariant-loop-m l = too_many_nodes l.limits l.of_body l.of_text (drop l.m-index l.made) ≡ too_many_nodes l.limits l.nodes l.size l.made
