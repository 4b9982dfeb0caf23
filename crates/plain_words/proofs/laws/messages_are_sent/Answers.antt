use Rattle.plain_words.proofs.Sending.{send_asks}
use Rattle.plain_words.proofs.laws.messages_are_sent.Goals as goal

pub returns : goal.returns
returns c = send_asks
