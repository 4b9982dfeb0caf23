use Rattle.session_text.proofs.Telling.{apart}
use Rattle.session_text.proofs.laws.commands_are_told_apart.Goals as goal

pub returns : goal.returns
returns c = apart
