use Rattle.self_grammar.proofs.Balance.{edit_balanced}
use Rattle.self_grammar.proofs.Refusals.{edit_or_refusal, one_edit_refusal, refused_is_no_edit}
use Rattle.self_grammar.proofs.Theorem.{one_edit}
use Rattle.self_grammar.proofs.laws.edits_mean_one_thing.Goals as goal

pub returns-clause-some : goal.returns-clause-some
returns-clause-some c = edit_or_refusal

pub returns-clause-one : goal.returns-clause-one
returns-clause-one c = one_edit

pub returns-clause-one_refusal : goal.returns-clause-one_refusal
returns-clause-one_refusal c = one_edit_refusal

pub returns-clause-never_both : goal.returns-clause-never_both
returns-clause-never_both c = refused_is_no_edit

pub returns-clause-balanced : goal.returns-clause-balanced
returns-clause-balanced c = edit_balanced
