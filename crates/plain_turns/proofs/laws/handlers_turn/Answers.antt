use Rattle.plain_turns.proofs.Handlers.{failures_ask, handlers_are_read, handlers_assign_nothing, handlers_answer, handlers_miss, handlers_meet_methods}
use Rattle.plain_turns.proofs.laws.handlers_turn.Goals as goal

pub returns-clause-asked : goal.returns-clause-asked
returns-clause-asked c = failures_ask

pub returns-clause-fields : goal.returns-clause-fields
returns-clause-fields c = handlers_are_read

pub returns-clause-none : goal.returns-clause-none
returns-clause-none c = handlers_assign_nothing

pub returns-clause-data : goal.returns-clause-data
returns-clause-data c = handlers_answer

pub returns-clause-missing : goal.returns-clause-missing
returns-clause-missing c = handlers_miss

pub returns-clause-method : goal.returns-clause-method
returns-clause-method c = handlers_meet_methods
