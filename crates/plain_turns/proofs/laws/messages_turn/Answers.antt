use Rattle.plain_turns.proofs.Asked.{messages_ask, fields_are_read}
use Rattle.plain_turns.proofs.Putting.{methods_there, units_fit, units_turn}
use Rattle.plain_turns.proofs.Answering.{data_turns, assignments_turn, misses_end}
use Rattle.plain_turns.proofs.laws.messages_turn.Goals as goal

pub returns-clause-asked : goal.returns-clause-asked
returns-clause-asked c = messages_ask

pub returns-clause-fields : goal.returns-clause-fields
returns-clause-fields c = fields_are_read

pub returns-clause-data : goal.returns-clause-data
returns-clause-data c = data_turns

pub returns-clause-assignment : goal.returns-clause-assignment
returns-clause-assignment c = assignments_turn

pub returns-clause-missing : goal.returns-clause-missing
returns-clause-missing c = misses_end

pub returns-clause-there : goal.returns-clause-there
returns-clause-there c = methods_there

pub returns-clause-room : goal.returns-clause-room
returns-clause-room c = units_fit

pub returns-clause-unit : goal.returns-clause-unit
returns-clause-unit c = units_turn
