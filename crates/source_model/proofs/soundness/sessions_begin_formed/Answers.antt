use Rattle.source_model.proofs.Beginning.{begins}
use Rattle.source_model.proofs.Testing.{begins_by_test}
use Rattle.source_model.proofs.soundness.sessions_begin_formed.Goals as goal

pub returns-clause-state : goal.returns-clause-state
returns-clause-state c = begins

pub returns-clause-test : goal.returns-clause-test
returns-clause-test c = begins_by_test
