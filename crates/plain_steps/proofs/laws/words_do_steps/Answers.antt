use Rattle.plain_steps.proofs.Words.{self_steps, int_steps, string_steps, nil_steps, drop_steps}
use Rattle.plain_steps.proofs.Answering.{return_steps, end_steps}
use Rattle.plain_steps.proofs.Reading.{read_steps}
use Rattle.plain_steps.proofs.Restarting.{restart_steps}
use Rattle.plain_steps.proofs.Storing.{store_steps}
use Rattle.plain_steps.proofs.Summing.{sum_steps, difference_steps}
use Rattle.plain_steps.proofs.laws.words_do_steps.Goals as goal

pub returns-clause-int : goal.returns-clause-int
returns-clause-int c = int_steps

pub returns-clause-string : goal.returns-clause-string
returns-clause-string c = string_steps

pub returns-clause-nil : goal.returns-clause-nil
returns-clause-nil c = nil_steps

pub returns-clause-receiver : goal.returns-clause-receiver
returns-clause-receiver c = self_steps

pub returns-clause-discard : goal.returns-clause-discard
returns-clause-discard c = drop_steps

pub returns-clause-answer : goal.returns-clause-answer
returns-clause-answer c = return_steps

pub returns-clause-end : goal.returns-clause-end
returns-clause-end c = end_steps

pub returns-clause-restart : goal.returns-clause-restart
returns-clause-restart c = restart_steps

pub returns-clause-read : goal.returns-clause-read
returns-clause-read c = read_steps

pub returns-clause-store : goal.returns-clause-store
returns-clause-store c = store_steps

pub returns-clause-sum : goal.returns-clause-sum
returns-clause-sum c = sum_steps

pub returns-clause-difference : goal.returns-clause-difference
returns-clause-difference c = difference_steps
