use Rattle.plain_turns.proofs.Primitives.{primitives_ask, undefined_end, primitives_may_apply, fulls_end, failures_keep, failures_end, answers_turn}
use Rattle.plain_turns.proofs.laws.primitives_turn.Goals as goal

pub returns-clause-asked : goal.returns-clause-asked
returns-clause-asked c = primitives_ask

pub returns-clause-undefined : goal.returns-clause-undefined
returns-clause-undefined c = undefined_end

pub returns-clause-may : goal.returns-clause-may
returns-clause-may c = primitives_may_apply

pub returns-clause-full : goal.returns-clause-full
returns-clause-full c = fulls_end

pub returns-clause-kept : goal.returns-clause-kept
returns-clause-kept c = failures_keep

pub returns-clause-failure : goal.returns-clause-failure
returns-clause-failure c = failures_end

pub returns-clause-answer : goal.returns-clause-answer
returns-clause-answer c = answers_turn
