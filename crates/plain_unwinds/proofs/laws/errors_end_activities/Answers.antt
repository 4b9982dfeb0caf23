use Rattle.plain_unwinds.proofs.Ended.{activities_end_unmarked}
use Rattle.plain_unwinds.proofs.Failing.{errors_fail, missing_fails, overflow_fails}
use Rattle.plain_unwinds.proofs.laws.errors_end_activities.Goals as goal

pub returns-clause-node : goal.returns-clause-node
returns-clause-node c = errors_fail

pub returns-clause-missing : goal.returns-clause-missing
returns-clause-missing c = missing_fails

pub returns-clause-overflow : goal.returns-clause-overflow
returns-clause-overflow c = overflow_fails

pub returns-clause-end : goal.returns-clause-end
returns-clause-end c = activities_end_unmarked
