use Rattle.plain_evaluates.proofs.Marks.{marks_decide}
use Rattle.plain_evaluates.proofs.laws.marks_decide.Goals as goal

pub returns : goal.returns
returns c = marks_decide
