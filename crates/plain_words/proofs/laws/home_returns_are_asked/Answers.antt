use Rattle.plain_words.proofs.Sending.{non_local_asks}
use Rattle.plain_words.proofs.laws.home_returns_are_asked.Goals as goal

pub returns : goal.returns
returns c = non_local_asks
