use Rattle.self_grammar.proofs.Balance.{world_balanced}
use Rattle.self_grammar.proofs.Refusals.{world_or_refusal, one_world_refusal, refused_is_no_world}
use Rattle.self_grammar.proofs.Theorem.{one_world}
use Rattle.self_grammar.proofs.laws.worlds_mean_one_thing.Goals as goal

pub returns-clause-some : goal.returns-clause-some
returns-clause-some c = world_or_refusal

pub returns-clause-one : goal.returns-clause-one
returns-clause-one c = one_world

pub returns-clause-one_refusal : goal.returns-clause-one_refusal
returns-clause-one_refusal c = one_world_refusal

pub returns-clause-never_both : goal.returns-clause-never_both
returns-clause-never_both c = refused_is_no_world

pub returns-clause-balanced : goal.returns-clause-balanced
returns-clause-balanced c = world_balanced
