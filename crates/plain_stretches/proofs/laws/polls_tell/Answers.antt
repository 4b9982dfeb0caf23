use Rattle.plain_stretches.proofs.Polls.{polls_stop, polls_pass}
use Rattle.plain_stretches.proofs.laws.polls_tell.Goals as goal

pub returns-clause-stop : goal.returns-clause-stop
returns-clause-stop c = polls_stop

pub returns-clause-pass : goal.returns-clause-pass
returns-clause-pass c = polls_pass
