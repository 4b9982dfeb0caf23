use Rattle.plain_prims.proofs.Failing.{failures_end, full_stores_end, unknown_fails, refusals_tell}
use Rattle.plain_prims.proofs.laws.failures_end_activities.Goals as goal

pub returns-clause-failure : goal.returns-clause-failure
returns-clause-failure c = failures_end

pub returns-clause-full : goal.returns-clause-full
returns-clause-full c = full_stores_end

pub returns-clause-unknown : goal.returns-clause-unknown
returns-clause-unknown c = unknown_fails

pub returns-clause-refusal : goal.returns-clause-refusal
returns-clause-refusal c = refusals_tell
