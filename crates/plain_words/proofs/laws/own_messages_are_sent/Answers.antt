use Rattle.plain_words.proofs.Sending.{implied_asks}
use Rattle.plain_words.proofs.laws.own_messages_are_sent.Goals as goal

pub returns : goal.returns
returns c = implied_asks
