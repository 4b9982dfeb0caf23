use Rattle.world_ready.proofs.Names.{accepted_sessions}
use Rattle.world_ready.proofs.laws.sessions_begin.Goals as goal

pub returns : goal.returns
returns c = accepted_sessions
