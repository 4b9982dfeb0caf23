use Rattle.plain_answers.proofs.Whole.{whole_stands, whole_assigns}
use Rattle.plain_answers.proofs.laws.lookups_read_memory.Goals as goal

pub returns-clause-stands : goal.returns-clause-stands
returns-clause-stands c = whole_stands

pub returns-clause-assignments : goal.returns-clause-assignments
returns-clause-assignments c = whole_assigns
