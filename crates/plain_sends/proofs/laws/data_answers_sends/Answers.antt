use Rattle.plain_sends.proofs.Sending.{data_answers_sends}
use Rattle.plain_sends.proofs.laws.data_answers_sends.Goals as goal

pub returns : goal.returns
returns c = data_answers_sends
