use Rattle.plain_lookups.proofs.Looking.{objects_decide, memories_agree}
use Rattle.plain_lookups.proofs.laws.memories_agree.Goals as goal

pub returns-clause-objects : goal.returns-clause-objects
returns-clause-objects c = objects_decide

pub returns-clause-heap : goal.returns-clause-heap
returns-clause-heap c = memories_agree
