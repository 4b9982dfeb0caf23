use Rattle.session_text.proofs.ValueTexts.{frames_show, stacks_show}
use Rattle.session_text.proofs.laws.frames_are_shown.Goals as goal

pub returns-clause-frame : goal.returns-clause-frame
returns-clause-frame c = frames_show

pub returns-clause-stack : goal.returns-clause-stack
returns-clause-stack c = stacks_show
