use Rattle.plain_contexts.proofs.Reading.{reads}
use Rattle.plain_contexts.proofs.Assigning.{stores}
use Rattle.plain_contexts.proofs.laws.locals_do_steps.Goals as goal

pub returns-clause-read : goal.returns-clause-read
returns-clause-read c = reads

pub returns-clause-store : goal.returns-clause-store
returns-clause-store c = stores
