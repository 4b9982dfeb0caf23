use Rattle.plain_sends.proofs.Messages.{sends_message}
use Rattle.plain_sends.proofs.laws.sends_message.Goals as goal

pub returns : goal.returns
returns c = sends_message
