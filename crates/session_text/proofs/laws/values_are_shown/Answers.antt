use Rattle.session_text.proofs.ValueTexts.{values_show, done_lines_show}
use Rattle.session_text.proofs.laws.values_are_shown.Goals as goal

pub returns-clause-ended : goal.returns-clause-ended
returns-clause-ended c = done_lines_show

pub returns-clause-values : goal.returns-clause-values
returns-clause-values c = values_show
