use Rattle.plain_handlers.proofs.Answering.{missing_messages_fail, messages_overflow}
use Rattle.plain_handlers.proofs.laws.messages_fail.Goals as goal

pub returns-clause-missing : goal.returns-clause-missing
returns-clause-missing c = missing_messages_fail

pub returns-clause-overflow : goal.returns-clause-overflow
returns-clause-overflow c = messages_overflow
