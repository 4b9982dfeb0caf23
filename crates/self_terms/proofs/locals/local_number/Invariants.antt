use Rattle.std.proofs.Common.{◌≡◌, ◌+◌, map, drop}
use Rattle.self_terms.specs.Bodies.{local_entry, sought, number_of}
use Rattle.self_terms.proofs.locals.local_number.Given as goal

abbrev pub invariant-loop-at : goal.invariant-loop-at
invariant-loop-at l = number_of (sought l.assigning l.name) (l.from + l.at) (map local_entry (drop l.at l.locals)) ≡ number_of (sought l.assigning l.name) l.from (map local_entry l.fn.locals)
