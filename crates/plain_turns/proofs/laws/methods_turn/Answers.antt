use Rattle.plain_turns.proofs.Served.{marks_may_be_tested, calls_turn, refusals_end}
use Rattle.plain_turns.proofs.laws.methods_turn.Goals as goal

pub returns-clause-mark : goal.returns-clause-mark
returns-clause-mark c = marks_may_be_tested

pub returns-clause-method : goal.returns-clause-method
returns-clause-method c = calls_turn

pub returns-clause-refused : goal.returns-clause-refused
returns-clause-refused c = refusals_end
