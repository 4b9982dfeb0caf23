use Rattle.plain_answers.proofs.Failing.{activities_end, errors_fail, missing_fails, overflow_fails, places_agree}
use Rattle.plain_answers.proofs.laws.errors_end_activities.Goals as goal

pub returns-clause-node : goal.returns-clause-node
returns-clause-node c = errors_fail

pub returns-clause-missing : goal.returns-clause-missing
returns-clause-missing c = missing_fails

pub returns-clause-overflow : goal.returns-clause-overflow
returns-clause-overflow c = overflow_fails

pub returns-clause-place : goal.returns-clause-place
returns-clause-place c = places_agree

pub returns-clause-any : goal.returns-clause-any
returns-clause-any c = activities_end
