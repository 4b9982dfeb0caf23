use Rattle.plain_sends.proofs.Sending.{nodes_send}
use Rattle.plain_sends.proofs.laws.nodes_send.Goals as goal

pub returns : goal.returns
returns c = nodes_send
