use Rattle.std.proofs.Common.{◌≡◌, ◌+◌, drop}
use Rattle.source_model.specs.Names.{number_from, number_of}
use Rattle.world_test.proofs.names.number_of.Given as goal

-- the number of the text in what is left is its number
abbrev pub invariant-loop-at : goal.invariant-loop-at
invariant-loop-at l = number_from (l.at + 1) l.text (drop l.at l.names) ≡ number_of l.names l.text
