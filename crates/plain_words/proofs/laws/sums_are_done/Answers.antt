use Rattle.plain_words.proofs.Summing.{sum_does, sum_asks}
use Rattle.plain_words.proofs.laws.sums_are_done.Goals as goal

pub returns-clause-done : goal.returns-clause-done
returns-clause-done c = sum_does

pub returns-clause-asked : goal.returns-clause-asked
returns-clause-asked c = sum_asks
