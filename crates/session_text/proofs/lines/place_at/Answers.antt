use Rattle.std.proofs.Common.{sym}
use Rattle.session_text.proofs.FrameSteps.{none_there}
use Rattle.session_text.proofs.lines.place_at.Goals as goal

pub returns-in-None : goal.returns-in-None
returns-in-None c = sym (none_there c.args.body.now.places c.args.node (record { edit = 0; line = 0; column = 0 }) (sym c.in-None.ensures))
