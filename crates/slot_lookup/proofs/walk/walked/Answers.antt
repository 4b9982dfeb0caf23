use Rattle.slot_lookup.proofs.walk.walked.Goals as goal

pub clear-requires-clause-numbered : goal.clear-requires-clause-numbered
clear-requires-clause-numbered c = rw c.deref.ensures.value c.walk_from-met.ensures.numbered

pub clear-requires-clause-covers : goal.clear-requires-clause-covers
clear-requires-clause-covers c = rw c.deref.ensures.value c.walk_from-met.ensures.covers
