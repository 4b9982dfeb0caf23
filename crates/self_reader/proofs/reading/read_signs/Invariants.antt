use Rattle.std.proofs.Common.{◌≡◌, drop}
use Rattle.self_reader.specs.Reading.{behind, all_said}
use Rattle.self_reader.proofs.reading.read_signs.Given as goal

-- what is said so far and at the signs that are left is what is said at all
abbrev pub invariant-loop-sign : goal.invariant-loop-sign
invariant-loop-sign l = behind l.items.items (all_said l.limits l.reader (drop l.sign-index l.signs)) ≡ all_said l.limits l.fn.start l.signs
