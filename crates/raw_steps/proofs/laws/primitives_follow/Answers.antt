use Rattle.raw_steps.proofs.Summing.{asked_is, sum_follows, difference_follows}
use Rattle.raw_steps.proofs.laws.primitives_follow.Goals as goal
use Rattle.self_terms.specs.declared.nodes.Node.TheVariants as nodes

pub returns-clause-message : goal.returns-clause-message
returns-clause-message c0 = λ z r s a older f fs S name args is_implied handler at enough. asked_is r s z S a older f fs args is_implied handler (nodes.Prim name args is_implied handler) at enough

pub returns-clause-sum : goal.returns-clause-sum
returns-clause-sum c0 = λ z r s a older f fs S name is_implied handler at row i j e g small. sum_follows r s z S a older f fs name is_implied handler at row i j e g small

pub returns-clause-difference : goal.returns-clause-difference
returns-clause-difference c0 = λ z r s a older f fs S name is_implied handler at row i j e g small. difference_follows r s z S a older f fs name is_implied handler at row i j e g small
