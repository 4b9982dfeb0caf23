use Rattle.std.proofs.Common.{◌≡◌, drop}
use Rattle.self_grammar.specs.Counts.{too_pending, pending_after}
use Rattle.self_reader.proofs.settling.pend.Given as goal

-- what is found from here on is what is found at all
abbrev pub invariant-loop-m : goal.invariant-loop-m
invariant-loop-m l = record {
  broken : too_pending l.limit l.behind (drop l.m-index l.made) ≡ too_pending l.limit l.pending l.made;
  pending : pending_after l.behind (drop l.m-index l.made) ≡ pending_after l.pending l.made;
}
