use Rattle.std.proofs.Common.{◌≡◌, map, drop}
use Rattle.self_terms.specs.Bodies.{argument_entry, is_named, number_of}
use Rattle.self_terms.proofs.locals.argument_number.Given as goal

abbrev pub invariant-loop-at : goal.invariant-loop-at
invariant-loop-at l = number_of (is_named l.name) l.at (map argument_entry (drop l.at l.arguments)) ≡ number_of (is_named l.name) 0 (map argument_entry l.fn.arguments)
