use Rattle.plain_words.proofs.Ints.{sum_is, difference_is, sum_fits, difference_fits, words_untagged}
use Rattle.plain_words.proofs.laws.words_are_summed.Goals as goal

pub returns-clause-sum : goal.returns-clause-sum
returns-clause-sum c = sum_is

pub returns-clause-difference : goal.returns-clause-difference
returns-clause-difference c = difference_is

pub returns-clause-sum_fits : goal.returns-clause-sum_fits
returns-clause-sum_fits c = sum_fits

pub returns-clause-difference_fits : goal.returns-clause-difference_fits
returns-clause-difference_fits c = difference_fits

pub returns-clause-untagged : goal.returns-clause-untagged
returns-clause-untagged c = words_untagged
