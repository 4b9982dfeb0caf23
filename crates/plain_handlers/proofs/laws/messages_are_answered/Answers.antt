use Rattle.plain_handlers.proofs.Answering.{data_answers_messages, assignments_answer_messages}
use Rattle.plain_handlers.proofs.laws.messages_are_answered.Goals as goal

pub returns-clause-data : goal.returns-clause-data
returns-clause-data c = data_answers_messages

pub returns-clause-assignment : goal.returns-clause-assignment
returns-clause-assignment c = assignments_answer_messages
