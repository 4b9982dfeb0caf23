use Rattle.std.proofs.Common.{◌*◌, arith}
use Rattle.session_text.proofs.FrameSteps.{pending_long}
use Rattle.session_text.proofs.rooms.pending_is_short.Goals as goal

pub returns : goal.returns
returns c = pending_long c.args.core c.args.values.now (84 * 79) (let few = c.requires in let values = c.values_are_short.ensures in omega (arith, few, values))
