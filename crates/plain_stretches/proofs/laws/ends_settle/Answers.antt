use Rattle.plain_stretches.proofs.Closing.{hosts_settle, ends_settle}
use Rattle.plain_stretches.proofs.laws.ends_settle.Goals as goal

pub returns-clause-answer : goal.returns-clause-answer
returns-clause-answer c = ends_settle

pub returns-clause-host : goal.returns-clause-host
returns-clause-host c = hosts_settle
