use Rattle.plain_contexts.proofs.Ending.{return_ends, end_ends}
use Rattle.plain_contexts.proofs.laws.oldest_activations_end.Goals as goal

pub returns-clause-answer : goal.returns-clause-answer
returns-clause-answer c = return_ends

pub returns-clause-end : goal.returns-clause-end
returns-clause-end c = end_ends
