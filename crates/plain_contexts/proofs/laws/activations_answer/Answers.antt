use Rattle.plain_contexts.proofs.Answering.{return_answers, end_answers}
use Rattle.plain_contexts.proofs.laws.activations_answer.Goals as goal

pub returns-clause-answer : goal.returns-clause-answer
returns-clause-answer c = return_answers

pub returns-clause-end : goal.returns-clause-end
returns-clause-end c = end_answers
