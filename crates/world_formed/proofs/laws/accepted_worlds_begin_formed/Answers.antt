use Rattle.world_formed.proofs.Begins.{accepted_begins, accepted_formed}
use Rattle.world_formed.proofs.laws.accepted_worlds_begin_formed.Goals as goal

pub returns-clause-begin : goal.returns-clause-begin
returns-clause-begin c = accepted_begins

pub returns-clause-formed : goal.returns-clause-formed
returns-clause-formed c = accepted_formed
