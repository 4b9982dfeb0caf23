use Rattle.plain_evaluates.proofs.Refused.{methods_refused, blocks_refused}
use Rattle.plain_evaluates.proofs.laws.entries_are_refused.Goals as goal

pub returns-clause-method : goal.returns-clause-method
returns-clause-method c = methods_refused

pub returns-clause-block : goal.returns-clause-block
returns-clause-block c = blocks_refused
