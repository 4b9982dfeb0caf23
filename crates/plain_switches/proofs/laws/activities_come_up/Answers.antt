use Rattle.plain_switches.proofs.Switching.{frames_may_come_up}
use Rattle.plain_switches.proofs.laws.activities_come_up.Goals as goal

pub returns : goal.returns
returns c = frames_may_come_up
